-- What an answer says of the bytes.
use Rattle.std.proofs.Common.{◌≡◌, subst, ℕ, ◌<◌, ◌≤◌, inl, inr, List, arith}
use Rattle.std.specs.Prelude.{Result, Ok, Err, IfOk, IfErr}
use Rattle.aplc_cprof.specs.declared.syntax.CProgram.{CProgram}
use Rattle.aplc_cprof.specs.WellFormed.{IsText}
use Rattle.aplc_cprof.proofs.WellFormedPlain.{program_of_text}
use Rattle.aplc_cread.specs.declared.answer.CRefusal.{CRefusal}
use Rattle.aplc_cread.specs.declared.answer.CStop.{CStop}
use Rattle.aplc_cread.specs.declared.answer.CStop.TheVariants as stop
use Rattle.aplc_cread.specs.Refusal.{IsPlace, IsNumber, FirstOf, IsRefused, IsStop, IsRead, HasNumber, IsAnswer}

pub answer_ok : (bytes : List ℕ) (r : Result CProgram CStop) → IsAnswer bytes r → IfOk r (IsText bytes)
answer_ok bytes (Ok p) a = a
answer_ok bytes (Err e) a = tt

pub answer_texts : (bytes : List ℕ) (r : Result CProgram CStop) → IsAnswer bytes r → (p : CProgram) → IsText bytes p → IsRead p r
answer_texts bytes (Ok q) a p t = program_of_text bytes q p a t
answer_texts bytes (Err stop.Memory) a p t = tt
answer_texts bytes (Err (stop.Refused r)) a p t = a.no_text p t

pub answer_refused : (bytes : List ℕ) (r : Result CProgram CStop) → IsAnswer bytes r → IfErr r (IsStop bytes)
answer_refused bytes (Ok p) a = tt
answer_refused bytes (Err e) a = a

number_of : (bytes : List ℕ) (n c : ℕ) → IsNumber bytes n c → (30 ≤ c) × (c ≤ 34)
number_of bytes n c (inl a) = let q = a.1 in (omega (arith, q), omega (arith, q))
number_of bytes n c (inr a) = elim a.1 [
  | inl b ↦ let q = b.1 in (omega (arith, q), omega (arith, q))
  | inr b ↦ elim b.1 [
    | inl d ↦ let q = d.1 in (omega (arith, q), omega (arith, q))
    | inr d ↦ elim d.1 [
      | inl e ↦ let q = e.1 in (omega (arith, q), omega (arith, q))
      | inr e ↦ let q = e.1 in (omega (arith, q), omega (arith, q))
    ]
  ]
]

pub answer_numbers : (bytes : List ℕ) (r : Result CProgram CStop) → IsAnswer bytes r → IfErr r HasNumber
answer_numbers bytes (Ok p) a = tt
answer_numbers bytes (Err stop.Memory) a = tt
answer_numbers bytes (Err (stop.Refused r)) a = number_of bytes r.place r.number a.number

-- ---- One refusal

one_place : (bytes : List ℕ) (a b : ℕ) → IsPlace bytes a → IsPlace bytes b → a < b → ⊥
one_place bytes a b x y l = x.longest (b, l, y.within, y.begins)

first_one : (P : Type 0) (n c d : ℕ) (A B : Type 0) → (A → B → c ≡ d) → FirstOf P n c A → FirstOf P n d B → c ≡ d
first_one P n c d A B same (inl x) (inl y) = let e = x.1 in let f = y.1 in cc
first_one P n c d A B same (inl x) (inr y) = absurd (y.0 x.0)
first_one P n c d A B same (inr x) (inl y) = absurd (x.0 y.0)
first_one P n c d A B same (inr x) (inr y) = same x.1 y.1

one_number : (bytes : List ℕ) (n c d : ℕ) → IsNumber bytes n c → IsNumber bytes n d → c ≡ d
one_number bytes n c d x y =
    first_one _ 30 c d _ _ (λ x y. first_one _ 31 c d _ _ (λ x y. first_one _ 34 c d _ _ (λ x y. first_one _ 33 c d _ _ (λ e f. cc (e, f)) x y) x y) x y) x y

pub one_refused : (bytes : List ℕ) (r s : CRefusal) → IsRefused bytes r → IsRefused bytes s → r ≡ s
one_refused bytes r s x y =
    let less : r.place < s.place → ⊥ = one_place bytes r.place s.place x.place y.place in
    let more : s.place < r.place → ⊥ = one_place bytes s.place r.place y.place x.place in
    let p : r.place ≡ s.place = equal r.place s.place less more in
    let n : r.number ≡ s.number = one_number bytes s.place r.number s.number (subst (λ n. IsNumber bytes n r.number) p x.number) y.number in
    λ j. record { number = n j; place = p j }
  where
    equal : (a b : ℕ) → (a < b → ⊥) → (b < a → ⊥) → a ≡ b
    equal a b l m = omega (arith, l, m)
