-- Why a test looks only at its names, and gives only numbers of the machine's range.
use Rattle.std.proofs.Common.{◌≡◌, refl, ap, subst, arith, ℤ, Bool, true, false, cond}
use Rattle.std.specs.Prelude.{Option, Some, None, Ok, Err}
use Rattle.aplc_scalar.specs.Scalar.{Given, IsInRange, in_range}
use Rattle.aplc_cprof.specs.declared.syntax.Int.{Int}
use Rattle.aplc_cprof.specs.declared.syntax.Int.TheVariants as int
use Rattle.aplc_cprof.specs.declared.syntax.Buf.{Buf}
use Rattle.aplc_cprof.specs.declared.syntax.Buf.TheVariants as buf
use Rattle.aplc_cprof.specs.Machine.{State, Value, Is, Bad, read_int, or_unset}
use Rattle.aplc_cprof.specs.Frames.{contents, SameSeen}
use Rattle.aplc_collect.specs.Elements.{ReadsWithin, GivesInRange, scope_of, scope_of_buf, number_of, scalar_test, one_step}

-- ---- Results

pub some_is : (x y : Given) → Some x ≡ Some y → x ≡ y
some_is x y e = ap or_first e
  where
    or_first : Option Given → Given
    or_first None = x
    or_first (Some z) = z

pub not_none : (x : Given) → None ≡ Some x → ⊥
not_none x e = cc

abbrev AreSame : Given → Given → Type 0
AreSame r q = r ≡ q

pub value_is : (a b : ℤ) → AreSame (Ok a) (Ok b) → a ≡ b
value_is a b e = ap or_first e
  where
    or_first : Given → ℤ
    or_first (Err k) = a
    or_first (Ok y) = y

-- ---- Variables and buffers

pub seen_int : (x : Int) (s t : State) → SameSeen (scope_of x) s t → read_int x t ≡ read_int x s
seen_int (int.Local k) s t seen = ap or_unset (seen.ints k (omega arith))
seen_int (int.Global k) s t seen = ap Is (seen.global_ints k (omega arith))

pub seen_buf : (p : Buf) (s t : State) → SameSeen (scope_of_buf p) s t → contents p t ≡ contents p s
seen_buf (buf.Local k) s t seen = seen.bufs k (omega arith)
seen_buf (buf.Global k) s t seen = seen.global_bufs k (omega arith)

abbrev number_when : Bool → ℤ → Option Given
number_when b y = cond b (Some (Ok y)) None

pub number_in_range : (v : Value) (x : ℤ) → number_of v ≡ Some (Ok x) → IsInRange x
number_in_range (Bad c) x e = absurd (not_none (Ok x) e)
number_in_range (Is y) x e = by_range (in_range y) refl e
  where
    by_range : (b : Bool) → in_range y ≡ b → number_when b y ≡ Some (Ok x) → IsInRange x
    by_range true h e = subst (λ w. IsInRange w) (value_is y x (some_is (Ok y) (Ok x) e)) h
    by_range false h e = absurd (not_none (Ok x) e)

-- ---- A number in a variable

pub scalar_reads : (x : Int) → ReadsWithin (scope_of x) (scalar_test x) one_step
scalar_reads x = record { same = λ tables s t seen is. ap number_of (seen_int x s t seen); same_steps = λ tables s t seen. refl }

pub scalar_numbers : (x : Int) → GivesInRange (scalar_test x)
scalar_numbers x = record { within = λ tables s is y e. number_in_range (read_int x s) y e }
