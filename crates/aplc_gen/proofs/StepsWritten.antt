-- The code of the steps of a line, one after the other, and what follows them.
use Rattle.std.proofs.Common.{◌≡◌, ◌∙◌, sym, ap, refl, ℕ, List, ◌∷◌, ◌++◌, Bool, true, false, ◌||◌}
use Rattle.std.specs.Prelude.{Option, None, if◌then◌else◌}
use Rattle.aplc_cprof.specs.declared.syntax.CStmt.{CStmt}
use Rattle.aplc_cprof.specs.Blocks.{Blocks}
use Rattle.aplc_core.specs.PlainSteps.{Term, Effect, Keep, Store, StoreAt, Call, ReadText, ReadNums, Show, Branch}
use Rattle.aplc_gen.specs.Layouts.{Site, the_routine}
use Rattle.aplc_gen.specs.Emitted.{jump_code, step_code, work_code, lead, is_branch, branches, known_behind, known_through}
use Rattle.aplc_gen.specs.Codes.{ending, exit_code, end_code}
use Rattle.aplc_gen.specs.Writing.{added}
use Rattle.aplc_gen.proofs.Adding.{added_after, nothing_added, and_left, and_right}

work_next : (g : Site) (known : List ℕ) (x : Effect) (rest : List Effect) → is_branch x ≡ false → work_code g known (x ∷ rest) ≡ step_code g known x ++ work_code g (known_behind known x) rest
work_next g known (Keep k t) rest f = refl
work_next g known (Store i n t) rest f = refl
work_next g known (StoreAt i n xs t) rest f = refl
work_next g known (Call i n a b r) rest f = refl
work_next g known (ReadText i k) rest f = refl
work_next g known (ReadNums i k) rest f = refl
work_next g known (Show o t) rest f = refl
work_next g known (Branch t) rest f = absurd (cc)

-- a step that is no branch
pub step_goes : (g : Site) (known known' : List ℕ) (x : Effect) (rest : List Effect) (b b' whole : Blocks) → is_branch x ≡ false → b' ≡ added (step_code g known x) b → known' ≡ known_behind known x → added (work_code g known (x ∷ rest)) b ≡ whole → added (work_code g known' rest) b' ≡ whole
step_goes g known known' x rest b b' whole f e k h =
    let more = work_code g (known_behind known x) rest in
    ap (λ ks. added (work_code g ks rest) b') k
    ∙ added_after (step_code g known x) more b b' (added more b') e refl
    ∙ ap (λ (c : List CStmt). added c b) (sym (work_next g known x rest f)) ∙ h

pub known_goes : (known known' : List ℕ) (x : Effect) (rest : List Effect) (whole : List ℕ) → is_branch x ≡ false → known' ≡ known_behind known x → known_through known (x ∷ rest) ≡ whole → known_through known' rest ≡ whole
known_goes known known' x rest whole f k h =
    ap (λ ks. known_through ks rest) k ∙ ap (λ (t : Bool). if t then known else known_through (known_behind known x) rest) (sym f) ∙ h

pub branches_go : (x : Effect) (rest : List Effect) (whole : Bool) → is_branch x ≡ false → branches (x ∷ rest) ≡ whole → branches rest ≡ whole
branches_go x rest whole f h = ap (λ (t : Bool). t || branches rest) (sym f) ∙ h

-- a branch
pub branch_ends : (g : Site) (known : List ℕ) (x : Effect) (t : Term) (rest : List Effect) (b b' whole : Blocks) → x ≡ Branch t → b' ≡ added (jump_code g known t (lead (the_routine g) t)) b → added (work_code g known (x ∷ rest)) b ≡ whole → b' ≡ whole
branch_ends g known x t rest b b' whole is e h = e ∙ ap (λ (y : Effect). added (work_code g known (y ∷ rest)) b) (sym is) ∙ h

pub branch_there : (x : Effect) (t : Term) (rest : List Effect) (whole : Bool) → x ≡ Branch t → branches (x ∷ rest) ≡ whole → whole ≡ false → ⊥
branch_there x t rest whole is h f = let e : true ≡ false = sym (ap (λ (y : Effect). branches (y ∷ rest)) is) ∙ h ∙ f in cc

pub ruleset steps_left = (step_goes, known_goes, branches_go, branch_ends, branch_there, and_left, and_right, nothing_added)

-- ---- What follows the steps

ending_next : (x : Effect) (rest : List Effect) → is_branch x ≡ false → ending (x ∷ rest) ≡ ending rest
ending_next (Keep k t) rest f = refl
ending_next (Store i n t) rest f = refl
ending_next (StoreAt i n xs t) rest f = refl
ending_next (Call i n a b r) rest f = refl
ending_next (ReadText i k) rest f = refl
ending_next (ReadNums i k) rest f = refl
ending_next (Show o t) rest f = refl
ending_next (Branch t) rest f = absurd (cc)

pub end_goes : (x : Effect) (rest : List Effect) (whole : Option Term) → is_branch x ≡ false → ending (x ∷ rest) ≡ whole → ending rest ≡ whole
end_goes x rest whole f h = sym (ending_next x rest f) ∙ h

pub end_there : (g : Site) (x : Effect) (t : Term) (rest : List Effect) (whole : Option Term) (b b' : Blocks) → x ≡ Branch t → b' ≡ added (exit_code g (lead (the_routine g) t)) b → ending (x ∷ rest) ≡ whole → b' ≡ added (end_code g whole) b
end_there g x t rest whole b b' is e h = e ∙ ap (λ (o : Option Term). added (end_code g o) b) (sym (ap (λ (y : Effect). ending (y ∷ rest)) is) ∙ h)

pub no_end : (g : Site) (whole : Option Term) (b : Blocks) → None ≡ whole → b ≡ added (end_code g whole) b
no_end g whole b h = nothing_added b ∙ ap (λ (o : Option Term). added (end_code g o) b) h

pub ruleset end_left = (end_goes, end_there, no_end)
