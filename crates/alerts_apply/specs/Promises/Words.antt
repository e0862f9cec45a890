-- Promise. What is known of an alert's texts and does not go by the leg, in three words: whether it is about road
-- traffic, 1 no and 2 yes; 1 where the lines that it names are known; and these, a bit for each.
use Rattle.std.specs.Prelude.{◌≡◌, List, Bool, true, false, cond, ℕ, ◌<◌, length, get_or}
use Rattle.formats_read.specs.Promises.Here.{Here}
use Rattle.alerts.specs.Text.{upper}
use Rattle.alerts.specs.Alert.{alert, Alert, cause, or_empty_text}
use Rattle.alerts.specs.Applies.{road_blob, leg_blob}
use Rattle.alerts.specs.Promises.Reduced.{text_fits, road}
use Rattle.alerts_lines.specs.Promises.Lines.{named_of}
use Rattle.alerts_lines.specs.Promises.Marks.{Lines}
use Rattle.alerts_text.specs.Promises.Word.{bits_of}
use Rattle.alerts_text.specs.Promises.Marked.{ok_for, blob_of}
use Rattle.alerts_apply.specs.Promises.Texts.{taken}

-- what three words say of the alert at p, where n bytes have room for its texts
pub record Says (n : ℕ) (s : List ℕ) (p about lines marks : ℕ) : Type 0 where
  pub not_road : {a : Alert} {q : ℕ} → Here alert s p q a → taken a (length (or_empty_text (cause a))) < n → about ≡ 1
      → false ≡ road (road_blob a)
  pub is_road : {a : Alert} {q : ℕ} → Here alert s p q a → taken a (length (or_empty_text (cause a))) < n → about ≡ 2
      → true ≡ road (road_blob a)
  pub named : {a : Alert} {q : ℕ} → Here alert s p q a → lines ≡ 1 → Lines (named_of (leg_blob a)) (bits_of 32 marks)

abbrev pub WordsSay : ℕ → List ℕ → ℕ → List ℕ → Type 0
WordsSay n s p w = Says n s p (get_or w 0 0) (get_or w 1 0) (get_or w 2 0)

abbrev pub road_word : Bool → ℕ
road_word r = cond r 2 1

-- the answers, from a buffer that keeps its length, old to new, and words that say what is so, w to w'
pub record RoadKnown (s : List ℕ) (p : ℕ) (r : Bool) (old new w w' : List ℕ) : Type 0 where
  pub kept : length new ≡ length old
  pub words : length w' ≡ length w
  pub says : WordsSay (length old) s p w → WordsSay (length old) s p w'
  pub is : WordsSay (length old) s p w → {a : Alert} {q : ℕ} → Here alert s p q a
      → taken a (length (or_empty_text (cause a))) < length old → r ≡ road (road_blob a)

pub record Fits (s : List ℕ) (p : ℕ) (short : List ℕ) (r : Bool) (old new w w' : List ℕ) : Type 0 where
  pub kept : length new ≡ length old
  pub words : length w' ≡ length w
  pub says : WordsSay (length old) s p w → WordsSay (length old) s p w'
  pub is : WordsSay (length old) s p w → {a : Alert} {q : ℕ} → Here alert s p q a → taken a (length short) < length old
      → r ≡ text_fits a short

-- of two texts whose lines are a word's bits, and of two whose lines may be in the words
pub record FitsAgain (word : ℕ) (h d short : List ℕ) (r : Bool) (old new : List ℕ) : Type 0 where
  pub kept : length new ≡ length old
  pub is : Lines (named_of (blob_of h d)) (bits_of 32 word) → r ≡ ok_for (blob_of h d) (upper short)

abbrev pub LinesIn : List ℕ → List ℕ → List ℕ → Type 0
LinesIn h d w = get_or w 1 0 ≡ 1 → Lines (named_of (blob_of h d)) (bits_of 32 (get_or w 2 0))

pub record FitsKnown (h d short : List ℕ) (r : Bool) (old new w w' : List ℕ) : Type 0 where
  pub kept : length new ≡ length old
  pub words : length w' ≡ length w
  pub road : get_or w' 0 0 ≡ get_or w 0 0
  pub lines : LinesIn h d w → LinesIn h d w'
  pub is : LinesIn h d w → r ≡ ok_for (blob_of h d) (upper short)
