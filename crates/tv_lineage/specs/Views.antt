-- What the types of the code stand for.
use Rattle.std.specs.Prelude.{List, Option, [], filter_map, length, map, option_and_then, option_map, reverse, ◌++◌, ◌∷◌}
use Rattle.tv_lemmas.specs.Members.{In}
use Rattle.tv_value.specs.Nested.{Place}
use Rattle.tv_value.specs.Values.{JobName, Name}
use Rattle.tv_lineage.specs.Kept as kept
use Rattle.tv_lineage.specs.Kept.{AreBefore, IsBefore, Kept, KeptRecord}
use Rattle.tv_lineage.specs.Lineages as lineages
use Rattle.tv_lineage.specs.Lineages.{place_at}
use Rattle.tv_lineage.specs.Reaching.{AreNumbers, Numbers}
use Rattle.tv_lineage.specs.Touching as touching
use Rattle.tv_lineage.specs.declared.mark.Leaf.{Leaf}
use Rattle.tv_lineage.specs.declared.mark.Mark.TheVariants.{Given, Made}
use Rattle.tv_lineage.specs.declared.mark.Mark.{Mark}
use Rattle.tv_lineage.specs.declared.mark.Part.TheVariants.{Group, Single}
use Rattle.tv_lineage.specs.declared.mark.Part.{Part}
use Rattle.tv_lineage.specs.declared.records.Entry.{Entry}

abbrev pub mark_view : Mark → touching.Mark
mark_view (Given x q) = touching.given x q
mark_view (Made n) = touching.made n

-- a mark as a part
abbrev pub mark_part : Mark → kept.Part
mark_part (Given x q) = kept.element x q
mark_part (Made n) = kept.result n

abbrev pub part_view : Part → kept.Part
part_view (Single m) = mark_part m
part_view (Group i) = kept.group i

abbrev pub leaf_view : Leaf → lineages.Leaf
leaf_view f = record { port = f.port; place = f.place; used = map mark_view f.used }

-- ---- what is kept

abbrev pub none_kept : Kept
none_kept = record { jobs = []; groups = [] }

-- with a new group
abbrev pub with_group : List kept.Part → Kept → Kept
with_group ps k = record { jobs = k.jobs; groups = ps ∷ k.groups }

-- with a new job, whose parts are a group too
abbrev pub with_job : JobName → List kept.Part → Kept → Kept
with_job n ps k = record {
  jobs = k.jobs ++ record { job = n; parts = ps } ∷ [];
  groups = ps ∷ k.groups;
}

abbrev pub parts_view : Entry → List kept.Part
parts_view e = map part_view e.parts

abbrev pub job_view : Entry → Option KeptRecord
job_view e = option_map (λ n. record { job = n; parts = parts_view e }) e.job

-- the latest group first
abbrev pub kept_of : List Entry → Kept
kept_of es = record { jobs = filter_map job_view es; groups = reverse (map parts_view es) }

-- what records keep true: parts name only groups made before, and the numbers are those of the jobs
pub record IsKept (ns : Numbers) (k : Kept) : Type 0 where
  pub before : AreBefore k.groups
  pub jobs : (r : KeptRecord) → In r k.jobs → (p : kept.Part) → In p r.parts
      → IsBefore (length k.groups) p
  pub numbers : AreNumbers ns k

-- the place of a job of the main flow's step
abbrev pub place_in : Name → Entry → Option Place
place_in s e = option_and_then (place_at s) e.job
