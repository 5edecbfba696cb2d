-- A block that is begun behind the open ones.
use Rattle.std.proofs.Common.{◌≡◌, ◌∙◌, ap, ℕ, List, [], ◌∷◌, ◌++◌, length}
use Rattle.std.proofs.Math.ListN.{set}
use Rattle.std.proofs.Math.Seq.{set-append_seam}
use Rattle.aplc_cprof.specs.declared.syntax.CStmt.{CStmt}
use Rattle.aplc_cprof.specs.Blocks.{Blocks}

-- the last item of a list, replaced
last_replaced : {A : Type 0} (xs pushed new : List A) (at : ℕ) (y z w : A) → at ≡ length xs → pushed ≡ xs ++ y ∷ [] → new ≡ set pushed at z → z ≡ w → new ≡ xs ++ w ∷ []
last_replaced xs pushed new at y z w len is e f =
    e ∙ ap (λ l. set l at z) is ∙ ap (λ n. set (xs ++ y ∷ []) n z) len ∙ set-append_seam xs y [] z ∙ ap (λ v. xs ++ v ∷ []) f

pub opened : (b : Blocks) (pushed outer : List (List CStmt)) (empty moved inner : List CStmt) (around : ℕ) → around ≡ length b.outer → pushed ≡ b.outer ++ empty ∷ [] → outer ≡ set pushed around moved → moved ≡ b.inner → inner ≡ [] → record b { outer = outer; inner = inner } ≡ record b { outer = b.outer ++ b.inner ∷ []; inner = [] }
opened b pushed outer empty moved inner around len is e f g =
    ap (λ (o : List (List CStmt)). record b { outer = o; inner = inner }) (last_replaced b.outer pushed outer around empty moved b.inner len is e f)
    ∙ ap (λ (i : List CStmt). record b { outer = b.outer ++ b.inner ∷ []; inner = i }) g
