-- The file of a name, in a map and in the list that contracts see.
use Rattle.std.proofs.Common.{◌≡◌, ℕ, Bool, true, false, cond, List, [], ◌∷◌, map, Option, Some, option_map, refl, ap, ◌∙◌, String, Vec}
use Rattle.std.proofs.lemmas.Map.Text.{is_eq-slice_cmp}
use Rattle.std.specs.declared.alloc.Global.{Global}
use Rattle.std.specs.Ordering.{nat_cmp}
use Rattle.std.specs.Cmp.Lexicographic.{slice_cmp}
use Rattle.std.specs.String.{string_bytes}
use Rattle.std.specs.BTreeMap.{is_at}
use Rattle.std.specs.Map.{lookup}
use Rattle.aplc_io.specs.Memory.{file_named, file_entry}

pub cond_map : (b : Bool) (v : Vec ℕ Global) (r : Option (Vec ℕ Global)) (s : Option (List ℕ)) → option_map (λ (w : Vec ℕ Global). w.items) r ≡ s → option_map (λ (w : Vec ℕ Global). w.items) (cond b (Some v) r) ≡ cond b (Some v.items) s
cond_map true v r s e = refl
cond_map false v r s e = e

pub file_found : (name : List ℕ) (es : List (String Global × Vec ℕ Global)) → option_map (λ (w : Vec ℕ Global). w.items) (lookup (is_at (λ k. slice_cmp nat_cmp name (string_bytes k))) es) ≡ file_named name (map file_entry es)
file_found name [] = refl
file_found name (e ∷ es) =
    cond_map _ e.1 _ _ (file_found name es) ∙ ap (λ b. cond b (Some e.1.items) (file_named name (map file_entry es))) (is_eq-slice_cmp name (string_bytes e.0))
