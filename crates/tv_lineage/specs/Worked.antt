-- Worked examples that compute.
use Rattle.std.specs.Prelude.{List, [], codes, map, ◌≡◌, ◌∷◌}
use Rattle.tv_value.specs.Nested.{Place}
use Rattle.tv_value.specs.Values.{JobName, Name}
use Rattle.tv_lineage.specs.Touching.{given, made}
use Rattle.tv_lineage.specs.Lineages.{Leaf, Record, backward, by_step, forward}

abbrev pub x : Name
x = codes "x"

abbrev pub y : Name
y = codes "y"

abbrev pub out : Name
out = codes "out"

-- the jobs of a cross of two lists of two, in the order in which two workers may have settled them
abbrev pub pairs : List Place
pairs = (1 ∷ 1 ∷ []) ∷ (0 ∷ 0 ∷ []) ∷ (1 ∷ 0 ∷ []) ∷ (0 ∷ 1 ∷ []) ∷ []

abbrev pub job_c : Place → JobName
job_c q = (codes "c", q) ∷ []

abbrev pub crossing : Place → Record
crossing [] = record { job = job_c []; used = [] }
crossing (i ∷ q) = record { job = job_c (i ∷ q); used = given x (i ∷ []) ∷ given y q ∷ [] }

abbrev pub crossed : List Record
crossed = map crossing pairs

abbrev pub leaf_c : Place → Leaf
leaf_c q = record { port = out; place = q; used = made (job_c q) ∷ [] }

abbrev pub leaves : List Leaf
leaves = map leaf_c ((0 ∷ 0 ∷ []) ∷ (0 ∷ 1 ∷ []) ∷ (1 ∷ 0 ∷ []) ∷ (1 ∷ 1 ∷ []) ∷ [])

-- a cross of two lists, by records
abbrev pub FollowsRecords : Type 0
FollowsRecords =
    (backward crossed (made (job_c (1 ∷ 0 ∷ [])) ∷ []) ≡ (x, 1 ∷ []) ∷ (y, 0 ∷ []) ∷ [])
    × (forward crossed leaves x (1 ∷ []) ≡ (out, 1 ∷ 0 ∷ []) ∷ (out, 1 ∷ 1 ∷ []) ∷ [])
    × (by_step crossed (codes "c") ≡ job_c (0 ∷ 0 ∷ []) ∷ job_c (0 ∷ 1 ∷ []) ∷ job_c (1 ∷ 0 ∷ [])
    ∷ job_c (1 ∷ 1 ∷ []) ∷ [])
