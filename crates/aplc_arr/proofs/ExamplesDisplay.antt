-- What arrays are displayed as, computed. `194 175` is the high minus in UTF-8.
use Rattle.std.specs.Prelude.{◌≡◌, ◌++◌, [], ◌∷◌, pos, negsuc, codes, map, refl}
use Rattle.std.specs.Fmt.{digits}
use lib.Utf8.{encode}
use Rattle.aplc_arr.specs.Display.{shown}
use Rattle.aplc_arr.proofs.Samples.{nums, chars, text}

-- `5`
a_number : shown (nums [] (pos 5 ∷ [])) ≡ codes "5" ++ (10 ∷ [])
unfolding digits encode
a_number = refl

-- `¯12`
a_negative : shown (nums [] (negsuc 11 ∷ [])) ≡ 194 ∷ 175 ∷ (codes "12" ++ (10 ∷ []))
unfolding digits encode
a_negative = refl

-- a character
a_letter : shown (chars [] (codes "x")) ≡ codes "x" ++ (10 ∷ [])
unfolding digits encode
a_letter = refl

-- `1 ¯20 3`
a_vector : shown (nums (3 ∷ []) (pos 1 ∷ negsuc 19 ∷ pos 3 ∷ [])) ≡ codes "1 " ++ (194 ∷ 175 ∷ (codes "20 3" ++ (10 ∷ [])))
unfolding digits encode
a_vector = refl

-- `'to be'`
a_text : shown (text (codes "to be")) ≡ codes "to be" ++ (10 ∷ [])
unfolding digits encode
a_text = refl

-- `⍳0`
no_number : shown (nums (0 ∷ []) []) ≡ 10 ∷ []
unfolding digits encode
no_number = refl

-- `''`
no_letter : shown (text []) ≡ 10 ∷ []
unfolding digits encode
no_letter = refl

-- `2 2⍴1 ¯10 100 5`
a_matrix : shown (nums (2 ∷ 2 ∷ []) (pos 1 ∷ negsuc 9 ∷ pos 100 ∷ pos 5 ∷ [])) ≡ codes "  1 " ++ (194 ∷ 175 ∷ (codes "10" ++ (10 ∷ (codes "100   5" ++ (10 ∷ [])))))
unfolding digits encode
a_matrix = refl

-- `2 3⍴'abcdef'`
a_table_of_letters : shown (chars (2 ∷ 3 ∷ []) (codes "abcdef")) ≡ codes "abc" ++ (10 ∷ (codes "def" ++ (10 ∷ [])))
unfolding digits encode
a_table_of_letters = refl

-- `2 2 2⍴1 2 3 4 5 6 7 18`: a column is as wide as its widest text in all planes
two_planes : shown (nums (2 ∷ 2 ∷ 2 ∷ []) (map pos (1 ∷ 2 ∷ 3 ∷ 4 ∷ 5 ∷ 6 ∷ 7 ∷ 18 ∷ []))) ≡ codes "1  2" ++ (10 ∷ (codes "3  4" ++ (10 ∷ 10 ∷ (codes "5  6" ++ (10 ∷ (codes "7 18" ++ (10 ∷ [])))))))
unfolding digits encode
two_planes = refl

-- `2 2 1 1⍴⍳4`: two empty lines where two axes move
four_axes : shown (nums (2 ∷ 2 ∷ 1 ∷ 1 ∷ []) (map pos (1 ∷ 2 ∷ 3 ∷ 4 ∷ []))) ≡ codes "1" ++ (10 ∷ 10 ∷ (codes "2" ++ (10 ∷ 10 ∷ 10 ∷ (codes "3" ++ (10 ∷ 10 ∷ (codes "4" ++ (10 ∷ [])))))))
unfolding digits encode
four_axes = refl

-- `0 3⍴0`
no_row : shown (nums (0 ∷ 3 ∷ []) []) ≡ []
unfolding digits encode
no_row = refl

-- `2 0⍴0`
no_column : shown (nums (2 ∷ 0 ∷ []) []) ≡ []
unfolding digits encode
no_column = refl
