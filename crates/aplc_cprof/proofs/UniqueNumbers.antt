-- Texts that end where no digit follows, and those of numbers.
use Rattle.std.proofs.Common.{rules, ◌≡◌, ◌∙◌, ap, sym, refl, subst, ℕ, suc, ◌+◌, ◌-◌, ◌*◌, ◌<◌, ◌^◌, List, [], ◌∷◌, ◌++◌, Bool, true, false, ◌&&◌, IsTrue, arith, length, ℤ, pos, negsuc, cond, decimal, nat_eq, nat_le, nat_lt}
use Rattle.std.proofs.lemmas.Bool.Decides.{nat_tests}
use Rattle.std.proofs.lemmas.List.{append_cancel_left}
use Rattle.std.specs.Fmt.{signed_decimal}
use Rattle.std.proofs.lemmas.Fmt.{digits_decimal, decimal_nonempty, decimal_injective}
use Rattle.std.proofs.lemmas.Str.Parse.{IsNumeralModel, numerals_by_fold}
use Rattle.aplc_cprof.proofs.Plain.{is_word, is_index}

abbrev pub is_digit : ℕ → Bool
is_digit c = nat_le 48 c && nat_lt c 58

-- no digit goes on
abbrev pub NoDigit : List ℕ → Type 0
NoDigit [] = Unit {0}
NoDigit (c ∷ cs) = is_digit c ≡ false

pub both : (a b : Bool) → IsTrue (a && b) → IsTrue a × IsTrue b
both true b h = (refl, h)
both false b h = absurd (cc h)

pub lt_of : (a b : ℕ) → IsTrue (nat_lt a b) → a < b
lt_of a b h = grind (arith, nat_tests)

pub eq_of : (a b : ℕ) → IsTrue (nat_eq a b) → a ≡ b
eq_of a b h = grind (arith, nat_tests)

-- two bytes that are not the same
pub clash : (c d : ℕ) (s t : List ℕ) → nat_eq c d ≡ false → c ∷ s ≡ d ∷ t → ⊥
clash c d s t n e = let same : c ≡ d = cc in grind (arith, nat_tests)

abbrev all_digits : List ℕ → Type 0
all_digits [] = Unit {0}
all_digits (c ∷ cs) = (is_digit c ≡ true) × all_digits cs

abbrev read_on : ℕ → List ℕ → ℕ
read_on n [] = n
read_on n (c ∷ cs) = read_on (10 * n + (c - 48)) cs

own : IsNumeralModel all_digits (read_on 0)
own = numerals_by_fold _ (search rules) read_on (search rules)

-- two runs of digits
digits_only : (x y k m : List ℕ) → all_digits x → all_digits y → NoDigit k → NoDigit m → x ++ k ≡ y ++ m → (x ≡ y) × (k ≡ m)
digits_only [] [] k m dx dy nk nm e = (refl, e)
digits_only [] (d ∷ y) k m dx dy nk nm e = let h : is_digit d ≡ false = subst NoDigit e nk in absurd (cc (h, dy.0))
digits_only (c ∷ x) [] k m dx dy nk nm e = let h : is_digit c ≡ false = subst NoDigit (sym e) nm in absurd (cc (h, dx.0))
digits_only (c ∷ x) (d ∷ y) k m dx dy nk nm e =
    let h : c ≡ d = cc in let t : x ++ k ≡ y ++ m = cc in
    let r = digits_only x y k m dx.1 dy.1 nk nm t in
    (cc (h, r.0), r.1)

pub decimal_only : (a b : ℕ) (k m : List ℕ) → a < 2 ^ 64 → b < 2 ^ 64 → NoDigit k → NoDigit m → decimal a ++ k ≡ decimal b ++ m → (a ≡ b) × (k ≡ m)
decimal_only a b k m la lb nk nm e =
    let r = digits_only (decimal a) (decimal b) k m (digits_decimal own a la) (digits_decimal own b lb) nk nm e in
    (decimal_injective a b la lb r.0, r.1)

-- a decimal begins with a digit
pub decimal_first : (n : ℕ) (k : List ℕ) → n < 2 ^ 64 → (c : ℕ) × ((t : List ℕ) × ((decimal n ++ k ≡ c ∷ t) × (is_digit c ≡ true)))
decimal_first n k h = go (decimal n) (digits_decimal own n h) (decimal_nonempty n h)
  where
    go : (ds : List ℕ) → all_digits ds → 0 < length ds → (c : ℕ) × ((t : List ℕ) × ((ds ++ k ≡ c ∷ t) × (is_digit c ≡ true)))
    go [] d l = absurd (omega (arith, l))
    go (c ∷ ds) d l = (c, (ds ++ k, (refl, d.0)))

-- ---- Texts of values

-- a text is that of one value at most, and it is known where it ends, if no digit follows
pub record Splits {A : Type 0} (text : A → List ℕ) (ok : A → Bool) : Type 0 where
  pub only : (a b : A) → IsTrue (ok a) → IsTrue (ok b) → (k m : List ℕ) → NoDigit k → NoDigit m → text a ++ k ≡ text b ++ m → (a ≡ b) × (k ≡ m)

-- the same with a fixed text behind it
pub then_fixed : {A : Type 0} {text : A → List ℕ} {ok : A → Bool} → Splits text ok → (t : List ℕ) → ((k : List ℕ) → NoDigit (t ++ k))
    → (a b : A) → IsTrue (ok a) → IsTrue (ok b) → (k m : List ℕ) → text a ++ (t ++ k) ≡ text b ++ (t ++ m) → (a ≡ b) × (k ≡ m)
then_fixed s t n a b ha hb k m e =
    let r = s.only a b ha hb (t ++ k) (t ++ m) (n k) (n m) e in (r.0, append_cancel_left t k m r.1)

pub indexes : Splits decimal is_index
indexes = record {
  only = λ a b ha hb k m nk nm e. let la = lt_of a (2 ^ 32) ha in let lb = lt_of b (2 ^ 32) hb in
      decimal_only a b k m (omega (arith, la)) (omega (arith, lb)) nk nm e;
}

-- a decimal does not begin with a sign
no_sign : (n : ℕ) (k m : List ℕ) → n < 2 ^ 64 → decimal n ++ k ≡ 45 ∷ m → ⊥
no_sign n k m h e =
    let d = decimal_first n k h in
    let q : d.0 ∷ d.1.0 ≡ 45 ∷ m = sym d.1.1.0 ∙ e in
    let c : d.0 ≡ 45 = cc in
    let f : is_digit 45 ≡ true = ap is_digit (sym c) ∙ d.1.1.1 in absurd (cc f)

word_only : (a b : ℤ) → IsTrue (is_word a) → IsTrue (is_word b) → (k m : List ℕ) → NoDigit k → NoDigit m → signed_decimal a ++ k ≡ signed_decimal b ++ m → (a ≡ b) × (k ≡ m)
word_only (pos a) (pos b) ha hb k m nk nm e =
    let la = lt_of a (2 ^ 63) ha in let lb = lt_of b (2 ^ 63) hb in
    let r = decimal_only a b k m (omega (arith, la)) (omega (arith, lb)) nk nm e in (ap pos r.0, r.1)
word_only (pos a) (negsuc b) ha hb k m nk nm e = let la = lt_of a (2 ^ 63) ha in absurd (no_sign a k (decimal (suc b) ++ m) (omega (arith, la)) e)
word_only (negsuc a) (pos b) ha hb k m nk nm e = let lb = lt_of b (2 ^ 63) hb in absurd (no_sign b m (decimal (suc a) ++ k) (omega (arith, lb)) (sym e))
word_only (negsuc a) (negsuc b) ha hb k m nk nm e =
    let la = lt_of a (2 ^ 63) ha in let lb = lt_of b (2 ^ 63) hb in
    let r = decimal_only (suc a) (suc b) k m (omega (arith, la)) (omega (arith, lb)) nk nm (append_cancel_left (45 ∷ []) (decimal (suc a) ++ k) (decimal (suc b) ++ m) e) in
    let q : a ≡ b = omega (arith, r.0) in (ap negsuc q, r.1)

pub words : Splits signed_decimal is_word
words = record { only = word_only }

-- what stands behind a run of digits
abbrev pub skip : List ℕ → List ℕ
skip [] = []
skip (c ∷ cs) = cond (is_digit c) (skip cs) (c ∷ cs)

skip_digits : (x k : List ℕ) → all_digits x → NoDigit k → skip (x ++ k) ≡ k
skip_digits [] [] d n = refl
skip_digits [] (c ∷ k) d n = ap (λ b. cond b (skip k) (c ∷ k)) n
skip_digits (c ∷ x) k d n = ap (λ b. cond b (skip (x ++ k)) (c ∷ (x ++ k))) d.0 ∙ skip_digits x k d.1 n

pub skip_index : (n : ℕ) (k : List ℕ) → IsTrue (is_index n) → NoDigit k → skip (decimal n ++ k) ≡ k
skip_index n k h nk = let l = lt_of n (2 ^ 32) h in skip_digits (decimal n) k (digits_decimal own n (omega (arith, l))) nk
