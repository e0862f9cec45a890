-- Promise. A call of a script, run in its turn: what it told, and the overlay to go on with.
use Rattle.std.specs.Prelude.{◌≡◌, Bool, true, false, cond, List, [], ◌∷◌, ℕ, ◌<◌, eqb, take, Option, Some, None}
use Rattle.formats.specs.Format.{Value}
use Rattle.formats_write.specs.Promises.Adds.{Adds}
use Rattle.formats_read.specs.Promises.Here.{Here}
use Rattle.panel.specs.Questions.{Lengths}
use Rattle.panel.specs.Calls.{Call, gives, writes, overlay_after}
use Rattle.replay_script.specs.Script.{call_form, call_of, Lent, lends}
use Rattle.replay_script.specs.declared.Asked.{Asked}
use Rattle.replay_script.specs.Promises.Asked.{Reads}
use Rattle.replay_script.specs.Tells.{telling}

-- the overlay of two that is current, of n bytes
abbrev pub current : ℕ → Bool → List ℕ → List ℕ → List ℕ
current n first a b = take n (cond first a b)

-- the call c, run over `old`, went from `out` and the place p to `next` and a place, and `left` is the overlay then
pub record Stepped (L : Lengths) (R : Lent) (c : Call) (old out : List ℕ) (p : ℕ) (left next : List ℕ)
    (place : Option ℕ) :
    Type 0 where
  pub unlent : lends R c ≡ false → place ≡ None
  pub told : lends R c ≡ true → Adds out (Some p) next place (telling c (gives L old c))
  pub after : lends R c ≡ true → left ≡ overlay_after old c (gives L old c)

-- a turn with the call that stands at `at`
pub record Turned (L : Lengths) (R : Lent) (s : List ℕ) (at : ℕ) (old out : List ℕ) (p : ℕ) (left next : List ℕ)
    (place : Option ℕ) (end : ℕ) :
    Type 0 where
  pub ends : (v : Value call_form) (q : ℕ) → Here call_form s at q v → end ≡ q
  pub stepped : (v : Value call_form) (q : ℕ) → Here call_form s at q v
      → Stepped L R (call_of L v) old out p left next place

abbrev pub accepted_of : Option ℕ → Bool
accepted_of None = false
accepted_of (Some k) = eqb k 0

-- the number of a writing call that ended so
pub record TellsNumber (out : List ℕ) (p : ℕ) (next : List ℕ) (r : Option ℕ) (place : Option ℕ) : Type 0 where
  pub unlent : r ≡ None → place ≡ None
  pub told : {k : ℕ} → r ≡ Some k → k < 256 → Adds out (Some p) next place (k ∷ [])

-- a writing call of a script
pub record ToldWriting (L : Lengths) (lent : ℕ) (work s : List ℕ) (q : Asked) (old new out : List ℕ) (p : ℕ)
    (next : List ℕ) (place : Option ℕ) (moved : Bool) (end : ℕ) :
    Type 0 where
  pub ends : end ≡ q.next
  pub of : {v : Value call_form} {e : ℕ} → Reads s q v e → writes (call_of L v) ≡ true → (R : Lent)
      → R.overlay ≡ lent → R.message_work ≡ work
      → Stepped L R (call_of L v) old out p (cond moved (take L.overlay new) old) next place
