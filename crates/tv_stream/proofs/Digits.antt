-- Numbers whose digits to base 4 are the same are equal.
use Rattle.std.proofs.Common.{◌≡◌, ℕ, zero, suc, ◌+◌, ◌*◌, ◌/◌, ◌%◌, ◌<◌, arith, refl, sym, ap, ◌∙◌}
use Rattle.tv_stream.specs.nodes.Digits.{without, Agree}

pub without-suc : (n i : ℕ) → without (suc n) i ≡ without n i / 4
without-suc zero i = refl
without-suc (suc n) i = without-suc n (i / 4)

-- two numbers agree with a third, and have the same next digit
pub agree-more : (n a b c : ℕ) → Agree n a c → Agree n b c → without n a % 4 ≡ without n b % 4 → Agree (suc n) a b
agree-more zero a b c h k e = (e, tt)
agree-more (suc n) a b c h k e = (h.0 ∙ sym k.0, agree-more n (a / 4) (b / 4) (c / 4) h.1 k.1 e)

-- how many numbers have so many digits
abbrev pub fours : ℕ → ℕ
fours zero = 1
fours (suc n) = 4 * fours n

pub agree-all : (n a b : ℕ) → a < fours n → b < fours n → Agree n a b → a ≡ b
agree-all zero a b h k same = omega arith
agree-all (suc n) a b h k same = join a b same.0 (agree-all n (a / 4) (b / 4) (fewer a (fours n) h) (fewer b (fours n) k) same.1)
  where
    fewer : (a m : ℕ) → a < 4 * m → a / 4 < m
    fewer a m h = omega arith

    join : (a b : ℕ) → a % 4 ≡ b % 4 → a / 4 ≡ b / 4 → a ≡ b
    join a b e f = omega arith
