-- What reading and `⎕←` change.
use Rattle.std.proofs.Common.{ℕ, ap, refl}
use Rattle.aplc_scalar.specs.declared.kind.Kind.{Kind}
use Rattle.aplc_scalar.specs.declared.kind.Kind.TheVariants.{Num, Char}
use Rattle.aplc_scalar.specs.Input.{InputLine, Line, Unread, input_line, number_line}
use Rattle.aplc_names.specs.States.{State, and_then}
use Rattle.aplc_names.specs.Eager.{Context, Use, ready, read_line, put}
use Rattle.aplc_names.specs.RunLaws.{TakesALine, ChangesAlone}

takes : (c : Context) (i : ℕ) (u : Use) (k : Kind) (x : InputLine) (s : State) → TakesALine i k x s (read_line c i u k x s)
takes c i u k (Line zs rest) s = (_, refl, refl)
takes c i u k (Unread e) s = refl

pub changes_alone : (c : Context) → ChangesAlone c
changes_alone c = record {
  text = λ i p u s. takes c i u Char (input_line s.world.input) s;
  numbers = λ i p u s. takes c i u Num (number_line s.world.input) s;
  shows = λ i p a u s t v e. (_, ap (λ o. and_then o (λ v z. ready c i u 0 v (put v z))) e, refl);
}
