-- Worked documents: how processors iterate over lists.
use Rattle.std.specs.Prelude.{Ok, Some, [], codes, negsuc, ℕ, ◌∷◌, ◌≡◌}
use Rattle.serde_json.specs.Data.{array, item, negative, no_items, number, unsigned}
use Rattle.tv_value.specs.Readings.{read}
use Rattle.tv_value.specs.Values.{Name, Value, text_value}
use Rattle.tv_flow.specs.Flows.{Document, StepInput, input, merge}
use Rattle.tv_model.specs.Writing.{a, asks, b, constant_text, document, from_input, from_step, line, lists, o, out, pairing, takes, takes_list, words, x, y}

-- capitals of an input of this depth
abbrev pub capitals : ℕ → Value → Document
capitals d v =
    document ((x, d) ∷ []) ((codes "u", asks (codes "upper") (takes a (from_input x) ∷ [])) ∷ [])
    (out (codes "u")) ((x, v) ∷ [])

abbrev pub one_text : Document
one_text = capitals 0 (text_value (codes "a"))

abbrev pub nested_lists : Document
nested_lists =
    capitals 2 (lists (words (codes "a" ∷ []) ∷ words [] ∷ words (codes "b" ∷ codes "c" ∷ []) ∷ []))

-- a text is one job
abbrev pub CapitalsOfText : Type 0
CapitalsOfText = line one_text
    ≡ codes "{\"outputs\":{\"out\":\"A\"},\"totals\":{\"attempts\":1,\"bounced\":0,\"failed\":0,\"jobs\":1}}\n"

-- each text of a list of lists is one
abbrev pub WalksNestedLists : Type 0
WalksNestedLists = line nested_lists
    ≡ codes "{\"outputs\":{\"out\":[[\"A\"],[],[\"B\",\"C\"]]},\"totals\":{\"attempts\":3,\"bounced\":0,\"failed\":0,\"jobs\":3}}\n"

-- the empty list has no job
abbrev pub WalksEmptyList : Type 0
WalksEmptyList = line (capitals 1 (words []))
    ≡ codes "{\"outputs\":{\"out\":[]},\"totals\":{\"attempts\":0,\"bounced\":0,\"failed\":0,\"jobs\":0}}\n"

-- an integer of the document is its decimal text
abbrev pub ReadsNumbersAsTexts : Type 0
ReadsNumbersAsTexts =
    (read (array (item (number (unsigned 1)) (item (number (negative (negsuc 1))) no_items)))
    ≡ Ok (words (codes "1" ∷ codes "-2" ∷ [])))
    × (line (capitals 1 (words (codes "1" ∷ codes "-2" ∷ [])))
    ≡ codes "{\"outputs\":{\"out\":[\"1\",\"-2\"]},\"totals\":{\"attempts\":2,\"bounced\":0,\"failed\":0,\"jobs\":2}}\n")

-- two lists, each text with each
abbrev pub crossing : Value → Value → Document
crossing v w =
    document
    ((x, 1) ∷ (y, 1) ∷ [])
    ((codes "c", asks (codes "concat") (takes a (from_input x) ∷ takes b (from_input y) ∷ [])) ∷ [])
    (out (codes "c"))
    ((x, v) ∷ (y, w) ∷ [])

abbrev pub two_lists : Document
two_lists = crossing (words (codes "a" ∷ codes "b" ∷ [])) (words (codes "1" ∷ codes "2" ∷ []))

-- the first port's list is outermost
abbrev pub CrossesTwoLists : Type 0
CrossesTwoLists = line two_lists
    ≡ codes "{\"outputs\":{\"out\":[[\"a1\",\"a2\"],[\"b1\",\"b2\"]]},\"totals\":{\"attempts\":4,\"bounced\":0,\"failed\":0,\"jobs\":4}}\n"

abbrev pub CrossesWithEmptyInnerList : Type 0
CrossesWithEmptyInnerList =
    line (crossing (words (codes "a" ∷ codes "b" ∷ [])) (words []))
    ≡ codes "{\"outputs\":{\"out\":[[],[]]},\"totals\":{\"attempts\":0,\"bounced\":0,\"failed\":0,\"jobs\":0}}\n"

abbrev pub CrossesWithEmptyOuterList : Type 0
CrossesWithEmptyOuterList =
    line (crossing (words []) (words (codes "1" ∷ [])))
    ≡ codes "{\"outputs\":{\"out\":[]},\"totals\":{\"attempts\":0,\"bounced\":0,\"failed\":0,\"jobs\":0}}\n"

-- a list of three that another step made, and one of two, in pairs
abbrev pub pairs : Document
pairs =
    document
    ((x, 1) ∷ (y, 1) ∷ [])
    ((
      codes "c",
      record (asks (codes "concat")
          (takes a (from_step (codes "u")) ∷ takes b (from_input y) ∷ [])) {
            strategy = Some pairing;
          },
    )
    ∷ (codes "u", asks (codes "upper") (takes a (from_input x) ∷ []))
    ∷ []
    )
    (out (codes "c"))
    ((x, words (codes "a" ∷ codes "b" ∷ codes "c" ∷ []))
    ∷ (y, words (codes "1" ∷ codes "2" ∷ [])) ∷ [])

-- the shorter list ends the pairs
abbrev pub PairsToShorter : Type 0
PairsToShorter = line pairs
    ≡ codes "{\"outputs\":{\"out\":[\"A1\",\"B2\"]},\"totals\":{\"attempts\":5,\"bounced\":0,\"failed\":0,\"jobs\":5}}\n"

-- a text, where the port takes a list of texts
abbrev pub shallow : Document
shallow =
    document
    ((x, 0) ∷ [])
    ((
      codes "j",
      asks (codes "join")
          (takes_list a (from_input x) ∷ takes (codes "s") (constant_text (codes ",")) ∷ []),
    ) ∷ [])
    (out (codes "j"))
    ((x, text_value (codes "x")) ∷ [])

abbrev pub WrapsTextInList : Type 0
WrapsTextInList = line shallow
    ≡ codes "{\"outputs\":{\"out\":\"x\"},\"totals\":{\"attempts\":1,\"bounced\":0,\"failed\":0,\"jobs\":1}}\n"

-- two links into one port
abbrev pub both : Name × StepInput
both = takes_list a (merge (input x ∷ input y ∷ []))

abbrev pub merged : Document
merged =
    document
    ((x, 0) ∷ (y, 0) ∷ [])
    ((codes "e", record (asks (codes "echo") (both ∷ [])) { outputs = (o, 1) ∷ [] }) ∷ [])
    (out (codes "e"))
    ((x, text_value (codes "a")) ∷ (y, text_value (codes "b")) ∷ [])

abbrev pub MergesTwoTexts : Type 0
MergesTwoTexts = line merged
    ≡ codes "{\"outputs\":{\"out\":[\"a\",\"b\"]},\"totals\":{\"attempts\":1,\"bounced\":0,\"failed\":0,\"jobs\":1}}\n"
