-- The worked examples compute.
use Rattle.std.specs.Prelude.{refl}
use Rattle.std.specs.Fmt.{digits}
use Rattle.json.specs.Print.{escape_byte}
use Rattle.tv_words.proofs.Literals.{words_on_literals}
use Rattle.tv_top.specs.Worked.{RunsOneText, RunsChain, RunsFailure, RunsCross, ChecksCross, ChecksChain, RefusesCircle, RefusesNoDocument, RefusesDepth, TakesCommands, TakesNothingElse, AsksChain, AsksFailure, AsksAttempts, AsksNoCheck, AsksGenerated, AsksForward, AsksLineage, LineageOfCross, LineageOfFailure, ForwardOfCross, RefusesElements, RunsNestedFlow, RunsGenerated, TracesAttempts, TracesChain, TracesFailure, UpgradesOneText, RefusesLoop}

pub runs_one_text : RunsOneText
unfolding digits escape_byte
runs_one_text = refl

pub runs_chain : RunsChain
unfolding digits escape_byte
runs_chain = refl

pub runs_failure : RunsFailure
unfolding digits escape_byte
runs_failure = refl

pub runs_cross : RunsCross
unfolding digits escape_byte
runs_cross = refl

pub checks_cross : ChecksCross
unfolding digits escape_byte
checks_cross = refl

pub checks_chain : ChecksChain
unfolding digits escape_byte
checks_chain = refl

pub refuses_circle : RefusesCircle
unfolding digits escape_byte
refuses_circle = refl

pub refuses_no_document : RefusesNoDocument
unfolding digits escape_byte
refuses_no_document = refl

pub refuses_depth : RefusesDepth
unfolding digits escape_byte
refuses_depth = (refl, refl)

pub takes_commands : TakesCommands
unfolding words_on_literals
takes_commands = (refl, refl, refl, refl, refl, refl, refl, refl)

pub takes_nothing_else : TakesNothingElse
unfolding words_on_literals
takes_nothing_else = (refl, refl, refl, refl, refl, refl, refl)

pub asks_chain : AsksChain
unfolding digits escape_byte
asks_chain = refl

pub asks_failure : AsksFailure
unfolding digits escape_byte
asks_failure = refl

pub asks_attempts : AsksAttempts
unfolding digits escape_byte
asks_attempts = refl

pub asks_no_check : AsksNoCheck
unfolding digits escape_byte
asks_no_check = refl

pub traces_attempts : TracesAttempts
unfolding digits escape_byte
traces_attempts = refl

pub traces_chain : TracesChain
unfolding digits escape_byte
traces_chain = refl

pub traces_failure : TracesFailure
unfolding digits escape_byte
traces_failure = refl

pub runs_nested_flow : RunsNestedFlow
unfolding digits escape_byte
runs_nested_flow = refl

pub runs_generated : RunsGenerated
unfolding digits escape_byte
runs_generated = refl

pub asks_generated : AsksGenerated
unfolding digits escape_byte
asks_generated = refl

pub lineage_of_cross : LineageOfCross
unfolding digits escape_byte
lineage_of_cross = refl

pub lineage_of_failure : LineageOfFailure
unfolding digits escape_byte
lineage_of_failure = refl

pub forward_of_cross : ForwardOfCross
unfolding digits escape_byte
forward_of_cross = refl

pub refuses_elements : RefusesElements
unfolding digits escape_byte
refuses_elements = (refl, refl, refl, refl)

pub asks_lineage : AsksLineage
unfolding digits escape_byte
asks_lineage = (refl, refl)

pub asks_forward : AsksForward
unfolding digits escape_byte
asks_forward = (refl, refl)

pub upgrades_one_text : UpgradesOneText
unfolding digits escape_byte
upgrades_one_text = refl

pub refuses_loop : RefusesLoop
unfolding digits escape_byte
refuses_loop = (refl, refl, refl)
