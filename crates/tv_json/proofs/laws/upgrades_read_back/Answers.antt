use Rattle.tv_json.proofs.Lines.{upgrades-read-back}
use Rattle.tv_json.proofs.laws.upgrades_read_back.Goals as goal

pub returns : goal.returns
returns c = upgrades-read-back
