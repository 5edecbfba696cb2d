-- The code of a line of scalars is one that does what its steps do, and is so with more variables.
use Rattle.std.proofs.Common.{◌≡◌, ℕ, ◌+◌, ◌≤◌, List, [], ◌∷◌, ◌++◌, arith, pos, false}
use Rattle.std.specs.Prelude.{nat_le}
use Rattle.aplc_cprof.specs.declared.syntax.CStmt.{CStmt}
use Rattle.aplc_cprof.specs.declared.syntax.CStmt.TheVariants as stmt
use Rattle.aplc_cprof.specs.Blocks.{Blocks}
use Rattle.aplc_cprof.proofs.Emitted.{and_left}
use Rattle.aplc_core.specs.PlainSteps.{Effect}
use Rattle.aplc_core.specs.CoreRuns.{told}
use Rattle.aplc_gen.specs.Layouts.{Site, the_routine, base}
use Rattle.aplc_gen.specs.Sound.{effects_cost, are_effects, nothing_ready}
use Rattle.aplc_gen.specs.Emitted.{steps_width, work_code}
use Rattle.aplc_gen.specs.Codes.{ending, IsLine, end_code, whole_line}
use Rattle.aplc_gen.specs.Flows.{is_blank}
use Rattle.aplc_gen.specs.Writing.{added}
use Rattle.aplc_gen.specs.Added.{AddsLine}
use Rattle.aplc_gen.proofs.Adding.{added_after, added_grown}
use Rattle.aplc_gen.proofs.FormedSteps.{work_formed}
use Rattle.aplc_gen.proofs.Behaving.{work_simulates}

pub work_line : (g : Site) (ints bufs : ℕ) (known : List ℕ) (l : ℕ) (xs : List Effect) → is_blank xs ≡ false → base g + steps_width xs ≤ ints → IsLine g ints bufs known l xs (work_code g known xs)
work_line g ints bufs known l [] some le = absurd (cc)
work_line g ints bufs known l (x ∷ more) some le = record {
  does = λ served. work_simulates g known l x more served;
  placed = λ served sc room declares all_ints all_bufs deep.
      let few = declares.ints in
      work_formed sc g (omega (arith, le, all_ints)) few declares.functions known room (told (x ∷ more)) nothing_ready (x ∷ more) (λ n h. absurd (cc))
      (and_left (are_effects g.program (the_routine g).header.scope (told (x ∷ more)) nothing_ready (x ∷ more)) (nat_le (effects_cost (x ∷ more)) 2000) served.line) served.laid (omega (arith, le, all_ints)) (omega (arith, deep));
}

-- the location, the steps and what follows them
pub line_added : (g : Site) (known : List ℕ) (l : ℕ) (xs : List Effect) (b b1 b2 b3 : Blocks) → is_blank xs ≡ false → base g + steps_width xs ≤ b.ints → b1 ≡ added (stmt.At (the_routine g).header.title (pos l) ∷ []) b → b2 ≡ added (work_code g known xs) b1 → b3 ≡ added (end_code g (ending xs)) b2 → AddsLine g known l xs b b3
line_added g known l xs b b1 b2 b3 some le e1 e2 e3 =
    let at : List CStmt = stmt.At (the_routine g).header.title (pos l) ∷ [] in
    let whole = added_after at (work_code g known xs ++ end_code g (ending xs)) b b1 b3 e1 (added_after (work_code g known xs) (end_code g (ending xs)) b1 b2 b3 e2 e3) in
    let grown = added_grown (whole_line g l xs (work_code g known xs)) b b3 whole in
    let more = grown.ints in
    record { code = work_code g known xs; grown = grown; line = work_line g b3.ints b3.bufs known l xs some (omega (arith, le, more)) }
