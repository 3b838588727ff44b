use Rattle.std.proofs.Common.{ap, refl, Err}
use Rattle.tv_top.specs.Headline.{source_told}
use Rattle.tv_top.specs.Lines.{fault_line}
use Rattle.tv_top.specs.declared.status.Status.TheVariants.{TooLong}
use Rattle.tv_top.proofs.Given.{read-so, too-long}
use Rattle.tv_top.proofs.top.run_read.Goals as goal

pub returns-in-Ok-clause-read : goal.returns-in-Ok-clause-read
returns-in-Ok-clause-read g c =
    read-so g.V.Services.knows (source_told g.S.Source c.args.source.now c.read_all.new.source) c.in-Ok.bytes.items c.in-Ok.ensures.ok c.checked_run.result c.checked_run.ensures

pub returns-in-Err-TooLong-clause-read : goal.returns-in-Err-TooLong-clause-read
returns-in-Err-TooLong-clause-read g c =
    (λ bytes e. (fault_line TooLong, too-long g.V.Services.knows bytes (c.in-Err-TooLong.ensures.too_long (ap Err c.in-Err-TooLong.field-0-is) bytes e)), refl)
