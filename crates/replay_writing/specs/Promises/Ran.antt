-- Promise. How a call of a script ended, and what it left.
use Rattle.std.specs.Prelude.{◌≡◌, Bool, true, false, ◌&&◌, List, [], ◌∷◌, ℕ, ◌≤◌, leb, length, get_or, take, Option, Some, None}
use Rattle.std.proofs.Math.Seq.{slice}
use Rattle.decode.specs.Sizes.{most_old}
use Rattle.formats.specs.Format.{Value}
use Rattle.formats_read.specs.Promises.Here.{Here}
use Rattle.panel.specs.Questions.{Lengths}
use Rattle.panel.specs.Calls.{Call, message, gives, writes}
use Rattle.replay_script.specs.Script.{call_form, lengths_form, as_many, call_of, Lent, within, lends}
use Rattle.replay_script.specs.declared.Asked.{Asked}
use Rattle.replay_script.specs.Promises.Asked.{Reads}

abbrev pub ran_of : Bool → ℕ → Option ℕ
ran_of true n = Some n
ran_of false n = None

-- the writing call c over `old`, whose buffers are lent or not; it left `new`
pub record RanAs (lent : Bool) (L : Lengths) (old : List ℕ) (c : Call) (new : List ℕ) (r : Option ℕ) : Type 0 where
  pub number : r ≡ ran_of lent (gives L old c).number
  pub next : lent ≡ true → (gives L old c).number ≡ 0 → take L.overlay new ≡ (gives L old c).out

-- where a call's feed id and its message, sheet or card stand in a script
pub record Spans (s : List ℕ) (q : Asked) : Type 0 where
  pub feed_forward : q.feed.from ≤ q.feed.to
  pub feed_within : q.feed.to ≤ length s
  pub input_forward : q.input.from ≤ q.input.to
  pub input_within : q.input.to ≤ length s

-- and of an overlay's length that a message may have
pub record Sound (n : ℕ) (s : List ℕ) (q : Asked) : Type 0 where
  pub spans : Spans s q
  pub most : n ≤ most_old

-- the lengths of a message's working buffers, as they stand at p
pub record ReadsWork (s : List ℕ) (p : ℕ) (r : List ℕ) : Type 0 where
  pub of : {w : List ℕ} {q : ℕ} → Here lengths_form s p q w
      → r ≡ get_or w 0 0 ∷ get_or w 1 0 ∷ get_or w 2 0 ∷ []

abbrev pub within3 : ℕ → ℕ → ℕ → ℕ → ℕ → ℕ → Bool
within3 a b c k m o = leb a k && (leb b m && leb c o)

-- the buffers that a message asks for are lent
pub record Fits (a b c k m o out room : ℕ) : Type 0 where
  pub keys : a ≤ k
  pub marks : b ≤ m
  pub order : c ≤ o
  pub overlay : out ≤ room

-- a message whose working buffers' lengths stand in the script
pub record MessageRan (L : Lengths) (lent : ℕ) (work s : List ℕ) (q : Asked) (old new : List ℕ)
    (r : Option ℕ) : Type 0 where
  pub of : {w : List ℕ} {e : ℕ} → Here lengths_form s q.work e w
      → RanAs (within (as_many (0 ∷ 0 ∷ 0 ∷ []) w) work && leb q.out lent) L old
      (message (slice q.feed.from q.feed.to s) (slice q.input.from q.input.to s) q.out
      (as_many (0 ∷ 0 ∷ 0 ∷ []) w)) new r

-- a writing call of a script, over what is lent
pub record WritesAs (L : Lengths) (lent : ℕ) (work s : List ℕ) (q : Asked) (old new : List ℕ)
    (r : Option ℕ) : Type 0 where
  pub of : {v : Value call_form} {e : ℕ} → Reads s q v e → writes (call_of L v) ≡ true → (R : Lent)
      → R.overlay ≡ lent → R.message_work ≡ work → RanAs (lends R (call_of L v)) L old (call_of L v) new r
