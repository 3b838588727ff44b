use Rattle.tv_lineage.proofs.LawLemmas.{table-grows, table-tells, table-whole}
use Rattle.tv_lineage.proofs.laws.tables.Goals as goal

pub returns : goal.returns
returns c = record { grows = table-grows; whole = table-whole; tells = table-tells }
