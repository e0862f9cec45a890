-- Law. ONE BUFFER for one state, and back; all zeros is none; every state that a buffer holds fits the published
-- length.
use Rattle.std.specs.Prelude.{◌≡◌, refl, Bool, true, false, cond, ◌&&◌, List, [], ◌∷◌, ◌++◌, ◌↔◌, ℕ, zero, suc, ◌-◌, ◌≤◌, eqb, length, replicate}
use Rattle.std.proofs.Common.{ap, ◌∙◌, arith, length-append, eqb-true}
use Rattle.std.proofs.Math.Option.{Option, none, some}
use Rattle.std.proofs.lemmas.List.{length-replicate}
use Rattle.basics.specs.Laws.Options.{none_some}
use Rattle.basics.specs.Lists.{all}
use Rattle.formats.specs.Format.{read, write}
use Rattle.formats.specs.Laws.Format.{read_write, write_read}
use Rattle.formats_judge.specs.Judged.{ok}
use Rattle.formats_capacity.specs.Laws.Capacity.{capacity}
use Rattle.formats_capacity.proofs.Laws.Capacity.{capacity_bounds}
use Rattle.basics.specs.Laws.Booleans.{both_true}
use Rattle.overlay.proofs.Laws.Within.{Judged56, formed_of, keeps, both}
use Rattle.maps.specs.Map.{ascending}
use Rattle.maps.specs.Order.{texts}
use Rattle.overlay.specs.State.{State, overlay, feeds_of}
use Rattle.overlay.specs.Valid.{feed_valid, within, valid, Held}
use Rattle.overlay.specs.Image.{filled, image, held_state, state_of}
use Rattle.overlay.specs.Buffer.{Buffer, published}

all_zeros : (n : ℕ) → all (eqb 0) (replicate n 0) ≡ true
all_zeros zero = refl
all_zeros (suc n) = all_zeros n

zeros_all : (s : List ℕ) → all (eqb 0) s ≡ true → s ≡ replicate (length s) 0
zeros_all [] e = refl
zeros_all (b ∷ s) e = let h = both_true (eqb 0 b) (all (eqb 0) s) e in let z : 0 ≡ b = eqb-true 0 b h.0 in
    rw (← z) (ap (λ t. 0 ∷ t) (zeros_all s h.1))

-- the state of its image
pub image_state : (n : ℕ) (s : State) → Held s → state_of (image n s) ≡ some s
unfolding state_of image filled
image_state n s h =
    let k = n - length (write overlay s) in
    ap held_state (read_write overlay s (replicate k 0) h.fits)
    ∙ (λ i. cond (all_zeros k i && h.valid i) (some s) none)

-- what an accepted buffer holds
accepted_some : (o : Option (State × List ℕ)) (s : State) → held_state o ≡ some s
    → (rest : List ℕ) × (o ≡ some (s, rest)) × (all (eqb 0) rest ≡ true) × (valid s ≡ true)
accepted_some none s e = none_some e
accepted_some (some p) s e = go (all (eqb 0) p.1 && valid p.0) refl e
  where
    go : (t : Bool) → (all (eqb 0) p.1 && valid p.0) ≡ t → cond t (some p.0) none ≡ some s
        → (rest : List ℕ) × (some p ≡ some (s, rest)) × (all (eqb 0) rest ≡ true) × (valid s ≡ true)
    go true h k =
        let z : p.0 ≡ s = cc in
        let q = both_true (all (eqb 0) p.1) (valid p.0) h in
        (p.1, ap {B = Option (State × List ℕ)} (λ x. some (x, p.1)) z, q.0, rw z at q.1)
    go false h k = none_some k

zeros_filled : (x rest b : List ℕ) → b ≡ x ++ rest → rest ≡ replicate (length rest) 0 → b ≡ filled (length b) x
unfolding filled
zeros_filled x rest b e z =
    let n : length rest ≡ length b - length x = omega (arith, ap length e, length-append x rest) in
    e ∙ ap (λ r. x ++ r) (z ∙ ap (λ k. replicate k 0) n)

pub state_buffer : (b : List ℕ) (s : State) → state_of b ≡ some s → Buffer (length b) s b
unfolding state_of image
state_buffer b s e =
    let (rest, r, z, h) = accepted_some (read overlay b) s e in
    let (w, f) = write_read overlay b s rest r in
    record {
      is = zeros_filled (write overlay s) rest b w (zeros_all rest z);
      held = record { fits = f; valid = h };
      room = omega (arith, ap length w, length-append (write overlay s) rest);
    }

pub filled_length : (n : ℕ) (x : List ℕ) → length x ≤ n → length (filled n x) ≡ n
unfolding filled
filled_length n x h = rw (length-append, length-replicate) (omega arith)

-- ONE BUFFER: the accepted buffers of n bytes are the images of the held states that have room there, each of its own
pub one_buffer : (n : ℕ) (s : State) (b : List ℕ) → Buffer n s b ↔ ((length b ≡ n) × (state_of b ≡ some s))
unfolding image
one_buffer n s b = (
  λ B. (
    ap length B.is ∙ filled_length n (write overlay s) B.room,
    ap state_of B.is ∙ image_state n s B.held,
  ),
  λ h. rw h.0 at (state_buffer b s h.1),
)

pub no_state : (n : ℕ) → state_of (replicate n 0) ≡ none
unfolding state_of
no_state zero = refl
no_state (suc n) = refl

-- what `valid` asks of a state, part by part, and back
pub record ValidParts (s : State) : Type 0 where
  pub five : ok 5 overlay s ≡ true
  pub six : ok 6 overlay s ≡ true
  pub seven : ok 7 overlay s ≡ true
  pub up : ascending texts (feeds_of s) ≡ true
  pub feeds : all feed_valid (feeds_of s) ≡ true

pub valid_parts : (s : State) → valid s ≡ true → ValidParts s
unfolding valid within
valid_parts s h =
    let a = both_true (ok 5 overlay s && (ok 6 overlay s && ok 7 overlay s))
    (ascending texts (feeds_of s) && all feed_valid (feeds_of s)) h in
    let b = both_true (ok 5 overlay s) (ok 6 overlay s && ok 7 overlay s) a.0 in
    let c = both_true (ok 6 overlay s) (ok 7 overlay s) b.1 in
    let d = both_true (ascending texts (feeds_of s)) (all feed_valid (feeds_of s)) a.1 in
    record { five = b.0; six = c.0; seven = c.1; up = d.0; feeds = d.1 }

pub parts_valid : (s : State) → ValidParts s → valid s ≡ true
unfolding valid within
parts_valid s p = both (both p.five (both p.six p.seven)) (both p.up p.feeds)

-- a held state is within the rules
pub held_rules : (s : State) → Held s → Judged56 overlay s × (ok 7 overlay s ≡ true)
held_rules s h =
    let p = valid_parts s h.valid in
    (record { formed = formed_of overlay s h.fits; five = p.five; six = p.six }, p.seven)

pub published_capacity : capacity overlay ≡ published
published_capacity = refl

pub held_room : (s : State) → Held s → length (write overlay s) ≤ published
held_room s h =
    let w = held_rules s h in
    rw published_capacity at (capacity_bounds overlay s h.fits (keeps overlay s w.0.five w.0.six w.1))
