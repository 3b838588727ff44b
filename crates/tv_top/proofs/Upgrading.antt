-- What `upgrade` writes for a document that was read, reads as the same document in the second format.
use Rattle.std.specs.Prelude.{◌≡◌, ◌≤◌, ℕ, Bool, true, false, List, Option, Some, None, Result, Ok, Err, IsUtf8, length, nat_lt, option_map, if◌then◌else◌, refl}
use Rattle.std.specs.Str.{is_utf8}
use Rattle.std.proofs.Common.{ap, arith, subst, sym, ◌∙◌}
use Rattle.std.proofs.lemmas.Bool.Decides.{nat_tests}
use Rattle.std.proofs.lemmas.Str.{is_utf8-from_IsUtf8}
use Rattle.serde_json.specs.Data.{Data}
use Rattle.serde_json.specs.Read.{read as read_text}
use Rattle.tv_value.specs.Values.{Name, Text}
use Rattle.tv_gate.specs.Outcomes.{Giving}
use Rattle.tv_flow.specs.Complaints as form
use Rattle.tv_flow.specs.Flows.{Document, upgraded}
use Rattle.tv_flow.specs.Forms.{form_of}
use Rattle.tv_check.specs.Faulty as checking
use Rattle.tv_check.specs.Passes.{checked}
use Rattle.tv_json.specs.DocumentLines.{document_in}
use Rattle.tv_json.proofs.Lines.{upgrades-read-back}
use Rattle.tv_report.specs.UpgradeTexts.{upgraded_text}
use Rattle.tv_top.specs.Answers.{Answer, Reading, StatusLine, always, answer_of, answer_to_reading, byte_limit, json_of, reading_of, reading_of_json, unless_complaint, unless_misformed}
use Rattle.tv_top.specs.Upgraded.{IsUpgrade, IsUpgradeOf}
use Rattle.tv_top.specs.Words.{upgrade}
use Rattle.tv_top.specs.declared.status.Status.TheVariants.{TooLong}
use Rattle.tv_top.proofs.Formats.{checked-same}

module _ (knows : Name → Bool) (d : Document) where
  -- a document that was read, and accepted
  abbrev WasRead : Option Data → Type 0
  WasRead o = (option_map form_of o ≡ Some (Ok d)) × (checked knows d ≡ None)

  same : {A : Type 0} (a b : A) → ◌≡◌ {A = Result A StatusLine} (Ok a) (Ok b) → a ≡ b
  same a b e = cc

  of-check : (e : Document) (o : Option checking.CheckComplaint) → checked knows e ≡ o → unless_complaint e o ≡ Ok d → (e ≡ d) × (checked knows d ≡ None)
  of-check e None h k = (same e d k, subst (λ x. checked knows x ≡ None) (same e d k) h)
  of-check e (Some c) h k = absurd (cc k)

  of-form : (r : Result Document form.Complaint) → unless_misformed knows r ≡ Ok d → (r ≡ Ok d) × (checked knows d ≡ None)
  of-form (Ok e) h = let p = of-check e (checked knows e) refl h in (ap Ok p.0, p.1)
  of-form (Err c) h = absurd (cc h)

  of-json : (o : Option Data) → reading_of_json knows o ≡ Ok d → WasRead o
  of-json None h = absurd (cc h)
  of-json (Some j) h = let p = of-form (form_of j) h in (ap Some p.0, p.1)

  of-size : (b : Bool) (o : Option Data) → (if b then Err (always TooLong) else reading_of_json knows o) ≡ Ok d → WasRead o
  of-size true o h = absurd (cc h)
  of-size false o h = of-json o h

  of-bytes : (bytes : List ℕ) → reading_of knows bytes ≡ Ok d → WasRead (json_of bytes)
  of-bytes bytes h = of-size (nat_lt byte_limit (length bytes)) (json_of bytes) h

  -- bytes that are no UTF-8 aren't read
  of-text : (b : Bool) (o : Option Data) → option_map form_of (if b then o else None) ≡ Some (Ok d) → option_map form_of o ≡ Some (Ok d)
  of-text true o h = h
  of-text false o h = absurd (cc h)

  -- ---- and the other way

  fits : (n : ℕ) → n ≤ byte_limit → nat_lt byte_limit n ≡ false
  fits n h = grind (arith, nat_tests)

  accepted-form : (e : Document) (o : Option Data) → option_map form_of o ≡ Some (Ok e) → checked knows e ≡ None → reading_of_json knows o ≡ Ok e
  accepted-form e None h k = absurd (cc h)
  accepted-form e (Some j) h k = ap (unless_misformed knows) (only (form_of j) e h) ∙ ap (unless_complaint e) k
    where
      only : (r : Result Document form.Complaint) (e : Document) → ◌≡◌ {A = Option (Result Document form.Complaint)} (Some r) (Some (Ok e)) → r ≡ Ok e
      only r e p = cc

  accepted-text : (e : Document) (text : Text) → option_map form_of (json_of text) ≡ Some (Ok e) → checked knows e ≡ None → length text ≤ byte_limit → reading_of knows text ≡ Ok e
  accepted-text e text h k short =
      ap (λ b. if b then Err (always TooLong) else reading_of_json knows (json_of text)) (fits (length text) short)
      ∙ accepted-form e (json_of text) h k

  -- ---- the upgrade

  upgrade-of : (bytes : List ℕ) → reading_of knows bytes ≡ Ok d → IsUtf8 (upgraded_text d) → IsUpgrade knows d (upgraded_text d)
  upgrade-of bytes h u =
      let text = upgraded_text d in
      let read = of-bytes bytes h in
      let again : document_in text ≡ Some (Ok (upgraded d)) = upgrades-read-back bytes d (of-text (is_utf8 bytes) (read_text bytes) read.0) in
      let reads : option_map form_of (json_of text) ≡ Some (Ok (upgraded d)) =
      ap (λ b. option_map form_of (if b then read_text text else None)) (is_utf8-from_IsUtf8 text u) ∙ again in
      record {
        reads = reads;
        accepted = accepted-text (upgraded d) text reads (checked-same d knows ∙ read.1);
        means = λ gives. refl;
      }

pub upgrade-read : (gives : Giving) (knows : Name → Bool) (bytes : List ℕ) (text : Text) → IsUtf8 text
    → answer_of gives knows (Some upgrade) bytes ≡ Ok text → IsUpgradeOf knows bytes text
upgrade-read gives knows bytes text u h = by (reading_of knows bytes) refl h
  where
    by : (r : Reading) → reading_of knows bytes ≡ r → answer_to_reading gives upgrade r ≡ Ok text → IsUpgradeOf knows bytes text
    by (Ok d) e k =
        let same : upgraded_text d ≡ text = told (upgraded_text d) k in
        (d, e, subst (IsUpgrade knows d) same (upgrade-of knows d bytes e (subst IsUtf8 (sym same) u)))
      where
        told : (t : Text) → ◌≡◌ {A = Answer} (Ok t) (Ok text) → t ≡ text
        told t p = cc
    by (Err r) e k = absurd (cc k)
