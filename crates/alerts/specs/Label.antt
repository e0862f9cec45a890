-- Believe: 01, Rust forms that need another body. The label of an alert: the header itself, or, where there is no
-- header, the description's first 120 characters. An empty text is no label.
use Rattle.std.specs.Prelude.{List, [], ◌∷◌, Bool, cond, ℕ, zero, suc}
use Rattle.formats.specs.Class.{inside, trail}
use Rattle.alerts.specs.Alert.{Alert, header, description, is_given, or_empty_text}

-- a character begins at each byte that is no trailing one, of 128 to 191
abbrev pub continues : ℕ → Bool
continues b = inside trail b

abbrev pub characters : ℕ → List ℕ → List ℕ
characters n [] = []
characters zero (b ∷ s) = let r = characters zero s in cond (continues b) (b ∷ r) []
characters (suc n) (b ∷ s) = b ∷ characters (cond (continues b) (suc n) n) s

abbrev pub label_of : Bool → List ℕ → List ℕ → List ℕ
label_of has_header header description = cond has_header header (characters 120 description)

abbrev pub label : Alert → List ℕ
label a = label_of (is_given (header a)) (or_empty_text (header a)) (or_empty_text (description a))
