-- What holds of elements that are read and printed.
use Rattle.std.specs.Prelude.{Some, true, ◌<◌, ◌^◌, ◌↔◌, ◌≡◌}
use Rattle.tv_lemmas.specs.Members.{Each}
use Rattle.tv_value.specs.Nested.{Place}
use Rattle.tv_value.specs.Printed.{element_text}
use Rattle.tv_value.specs.Values.{Name, Text}
use Rattle.tv_flow.specs.Forms.{is_name}
use Rattle.tv_words.specs.elements.Elements.{element_of}

-- the text of an element, as it is printed, whose port is a name and whose indices have 32 bits
pub record IsElement (t : Text) (l : Name × Place) : Type 0 where
  pub port : is_name l.0 ≡ true
  pub indices : Each (λ i. i < 2 ^ 32) l.1
  pub text : t ≡ element_text l

-- exactly these are read, and as what they are
abbrev pub ReadsPrinted : Type 0
ReadsPrinted = (t : Text) (l : Name × Place) → (element_of t ≡ Some l) ↔ IsElement t l
