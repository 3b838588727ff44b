-- A line feed after compact JSON changes none of its tokens.
use Rattle.std.specs.Prelude.{◌≡◌, ℕ, List, [], ◌∷◌, ◌++◌, Bool, true, false, cond, ◌&&◌, refl}
use Rattle.std.proofs.Common.{ap, ap₂, sym, ◌∙◌, append_assoc}
use Rattle.json.specs.Token.{Token, begin_object, end_object, begin_array, end_array, key, string, number, boolean, null, bad}
use Rattle.json.specs.Word.{ends_word, word}
use Rattle.json.specs.Lex.{Lexeme, token, comma, colon, string_token, lex, between, fresh, punctuate, tokens}
use Rattle.json.specs.Print.{escape, quoted, token_text, begins, ends, separator, print_from, print, IsPrintable, ArePrintable}
use Rattle.json.proofs.Printed.Strings.{content-escape, lex-escape}
use Rattle.json.proofs.Printed.Numbers.{lex-number, in_word-ended}
use Rattle.json.proofs.Printed.Tokens.{tokens-print}

-- what the lexer gives for the text of a token
abbrev lexemes_of : Token → List Lexeme
lexemes_of begin_object = token begin_object ∷ []
lexemes_of end_object = token end_object ∷ []
lexemes_of begin_array = token begin_array ∷ []
lexemes_of end_array = token end_array ∷ []
lexemes_of (key s) = token (string s) ∷ colon ∷ []
lexemes_of (string s) = token (string s) ∷ []
lexemes_of (number s) = token (number s) ∷ []
lexemes_of (boolean b) = token (boolean b) ∷ []
lexemes_of null = token null ∷ []
lexemes_of bad = []

lex-quoted : (s r : List ℕ) → lex between (quoted s ++ r) ≡ token (string s) ∷ lex between r
unfolding lex
lex-quoted s r =
    ap (λ l. lex between (34 ∷ l)) (append_assoc (escape s) (34 ∷ []) r)
    ∙ ap₂ (λ o l. token (string_token o) ∷ l) (content-escape s r) (lex-escape s r)

lex-token : (t : Token) (r : List ℕ) → IsPrintable t → (ends t ≡ true → ends_word r ≡ true) → lex between (token_text t ++ r) ≡ lexemes_of t ++ lex between r
unfolding lex word
lex-token begin_object r h ended = refl
lex-token end_object r h ended = refl
lex-token begin_array r h ended = refl
lex-token end_array r h ended = refl
lex-token (key s) r h ended = ap (lex between) (append_assoc (quoted s) (58 ∷ []) r) ∙ lex-quoted s (58 ∷ r)
lex-token (string s) r h ended = lex-quoted s r
lex-token (number s) r h ended = lex-number s r h (ended refl)
lex-token (boolean true) r h ended = ap₂ (λ b l. token (cond b (boolean true) bad) ∷ l) (ended refl) (in_word-ended r (ended refl))
lex-token (boolean false) r h ended = ap₂ (λ b l. token (cond b (boolean false) bad) ∷ l) (ended refl) (in_word-ended r (ended refl))
lex-token null r h ended = ap₂ (λ b l. token (cond b null bad) ∷ l) (ended refl) (in_word-ended r (ended refl))
lex-token bad r h ended = absurd h

lex-comma : (b : Bool) (r : List ℕ) → lex between (cond b (44 ∷ []) [] ++ r) ≡ cond b (comma ∷ []) [] ++ lex between r
unfolding lex
lex-comma true r = refl
lex-comma false r = refl

-- after a value stands a comma, a closing bracket or nothing
after-value : (ts : List Token) → ends_word (print_from true ts) ≡ true
unfolding print_from
after-value [] = refl
after-value (begin_object ∷ ts) = refl
after-value (end_object ∷ ts) = refl
after-value (begin_array ∷ ts) = refl
after-value (end_array ∷ ts) = refl
after-value (key s ∷ ts) = refl
after-value (string s ∷ ts) = refl
after-value (number s ∷ ts) = refl
after-value (boolean b ∷ ts) = refl
after-value (null ∷ ts) = refl
after-value (bad ∷ ts) = refl

abbrev fed : List ℕ → List ℕ
fed r = r ++ 10 ∷ []

ends-fed : (r : List ℕ) → ends_word r ≡ true → ends_word (fed r) ≡ true
ends-fed [] e = refl
ends-fed (x ∷ r) e = e

-- of a text before which something stands
fed-after : (s t r : List ℕ) → fed (s ++ (t ++ r)) ≡ s ++ (t ++ fed r)
fed-after s t r = append_assoc s (t ++ r) (10 ∷ []) ∙ ap (λ l. s ++ l) (append_assoc t r (10 ∷ []))

lex-fed : (c : Bool) (ts : List Token) → ArePrintable ts → lex between (fed (print_from c ts)) ≡ lex between (print_from c ts)
unfolding lex print_from ArePrintable
lex-fed c [] h = refl
lex-fed c (t ∷ ts) h =
    let b = c && begins t in
    let r = print_from (ends t) ts in
    let ended : ends t ≡ true → ends_word r ≡ true = λ e. ap (λ b. ends_word (print_from b ts)) e ∙ after-value ts in
    let before : List Lexeme → List Lexeme = λ l. cond b (comma ∷ []) [] ++ (lexemes_of t ++ l) in
    ap (lex between) (fed-after (separator c t) (token_text t) r)
    ∙ lex-comma b (token_text t ++ fed r)
    ∙ ap (λ l. cond b (comma ∷ []) [] ++ l) (lex-token t (fed r) h.0 (λ e. ends-fed r (ended e)))
    ∙ ap before (lex-fed (ends t) ts h.1)
    ∙ ap (λ l. cond b (comma ∷ []) [] ++ l) (sym (lex-token t r h.0 ended))
    ∙ sym (lex-comma b (token_text t ++ r))

pub tokens-fed : (ts : List Token) → ArePrintable ts → tokens (fed (print ts)) ≡ ts
tokens-fed ts h = ap (punctuate fresh) (lex-fed false ts h) ∙ tokens-print ts h
