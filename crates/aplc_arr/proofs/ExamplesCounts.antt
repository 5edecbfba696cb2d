-- What primitives cost, by shapes, computed.
use Rattle.std.specs.Prelude.{◌≡◌, [], ◌∷◌, Some, refl}
use Rattle.aplc_arr.specs.Counts.{each_applications, reduction_applications, scan_applications, inner_applications, search_applications, list_of_places}

-- `-2 3⍴⍳6`: one for each element
each_element : each_applications (2 ∷ 3 ∷ []) ≡ 6
each_element = refl

-- `+/2 3⍴⍳6`: two for each of two rows
rows_added : reduction_applications (Some 1) (2 ∷ 3 ∷ []) (2 ∷ []) ≡ 4
rows_added = refl

-- `+/2 0⍴0`: the identity takes none
nothing_added : reduction_applications (Some 1) (2 ∷ 0 ∷ []) (2 ∷ []) ≡ 0
nothing_added = refl

-- `+\⍳4`: none, one, two and three
prefixes_added : scan_applications (Some 0) (4 ∷ []) ≡ 6
prefixes_added = refl

-- `+.×` of two rows of three and three rows of two: three products and two sums for each of four elements
matrix_product : inner_applications (2 ∷ 3 ∷ []) (3 ∷ 2 ∷ []) (2 ∷ 2 ∷ []) ≡ 20
matrix_product = refl

-- `1 2 3∊⍳4`: each with each
searched : search_applications (3 ∷ []) (4 ∷ []) ≡ 12
searched = refl

-- `1 0 2/'abc'`: one place for each layer of the result; `2/'ab'` keeps no list
places_kept : list_of_places (Some 0) (3 ∷ []) (3 ∷ []) ≡ 3
places_kept = refl

no_places_kept : list_of_places (Some 0) [] (4 ∷ []) ≡ 0
no_places_kept = refl
