-- What the readers of numbers find, by the tests that the code makes.
use Rattle.std.specs.Prelude.{Option, Some, None}
use mathlib.Core.Path.{◌≡◌, refl, sym, ap, ◌∙◌}
use Rattle.std.proofs.lemmas.Option.{some_pair_parts}
use mathlib.Core.List.{List, ◌∷◌}
use mathlib.Core.Option.{Option as LogicOption, none, some}
use Prim.Native.Nat.{ℕ, zero, suc, ◌+◌, ◌-◌, ◌*◌, ◌^◌, ◌≤◌, ◌<◌}
use native.Mathlib.Omega.{arith}
use native.Mathlib.Nat.{pow-le-pow_right}
use native.Mathlib.Numerals.{add-one}
use lib.ListN.{length, drop, get_or, length-drop, drop_of_length-le}
use lib.Seq.{drop-cons}
use borrow.Author.Tests.{lt-ltb, le-ltb}
use Rattle.formats.specs.Readers.{Reader, bind}
use Rattle.formats.specs.Laws.Law.{Law}
use Rattle.formats.specs.Number.{number_r, little_r}
use Rattle.formats.specs.Promises.Number.{more_r}
use Rattle.formats.specs.Laws.Number.{little_law}
use Rattle.formats.specs.Laws.Outcome.{suffix}
use Rattle.formats.specs.Promises.Outcome.{numbered}

-- the place of a part is where it starts
pub place : (s : List ℕ) (at : ℕ) → at ≤ length s → length s - length (drop at s) ≡ at
place s at h = rw length-drop (omega arith)

-- an answer taken apart
bad_got : {C : Type 0} {n q : ℕ} → ◌≡◌ {A = Option (ℕ × ℕ)} None (Some (n, q)) → C
bad_got e = absurd (let z : ◌≡◌ {A = ℕ} 0 1 = cc in omega arith)

pub bad_none : (s : List ℕ) (o : LogicOption (ℕ × List ℕ)) (r : Option (ℕ × ℕ)) → r ≡ numbered s o → r ≡ None → o ≡ none
bad_none s none r e h = refl
bad_none s (some x) r e h = bad_got (sym h ∙ e)

-- what was got: what is left is the whole past the place
pub record NumberGot (r : Reader ℕ) (s : List ℕ) (at n q : ℕ) : Type 0 where
  pub reads : r (drop at s) ≡ some (n, drop q s)
  pub within : q ≤ length s

module _ {w : ℕ → List ℕ} {r : Reader ℕ} {ok : ℕ → Type 0} (l : Law w r ok) (s : List ℕ) (at : ℕ) where
  got_go : (o : LogicOption (ℕ × List ℕ)) → r (drop at s) ≡ o → (n q : ℕ) → Some (n, q) ≡ numbered s o
      → NumberGot r s at n q
  got_go none e n q h = bad_got (sym h)
  got_go (some x) e n q h =
      let k = some_pair_parts n x.0 q (length s - length x.1) h in
      let i : n ≡ x.0 = k.0 in
      let j : q ≡ length s - length x.1 = k.1 in
      record {
        reads = e
            ∙ rw (i, j)
            (ap {B = LogicOption (ℕ × List ℕ)} (λ t. some (x.0, t))
            (suffix at s (w x.0) x.1 (l.back (drop at s) x.0 x.1 e).0));
        within = rw j (omega arith);
      }

  pub got : (n q : ℕ) (o : Option (ℕ × ℕ)) → o ≡ numbered s (r (drop at s)) → o ≡ Some (n, q) → NumberGot r s at n q
  got n q o e h = got_go (r (drop at s)) refl n q (sym h ∙ e)

  got_fits : (n q : ℕ) → NumberGot r s at n q → ok n
  got_fits n q f = (l.back (drop at s) n (drop q s) f.reads).1

pub little_end : (k : ℕ) (s : List ℕ) (at : ℕ) → (k ≡ 0 → ⊥) → length s ≤ at
    → None ≡ numbered s (little_r k (drop at s))
little_end zero s at z h = absurd (z refl)
little_end (suc k) s at z h = rw (drop_of_length-le s h) refl

-- a byte is there
module _ (s : List ℕ) (at b : ℕ) (h : at < length s) (e : b ≡ get_or s at 0) where
  pub opened : drop at s ≡ b ∷ drop (at + 1) s
  opened = rw (add-one, e) (drop-cons s at 0 h)

  alone : Some (b, at + 1) ≡ numbered s (some (b, drop (at + 1) s))
  alone = rw (place s (at + 1) (omega arith)) refl

  pub front_good : b < 128 → Some (b, at + 1) ≡ numbered s (number_r (drop at s))
  front_good l = rw (opened, lt-ltb b 128 l) alone

  pub front_more : 128 ≤ b → b < 256 → (r : Option (ℕ × ℕ)) → r ≡ numbered s (more_r 8 (b - 128) 128 (drop (at + 1) s))
      → r ≡ numbered s (number_r (drop at s))
  front_more l u r f =
      let g : number_r (drop at s) ≡ more_r 8 (b - 128) 128 (drop (at + 1) s) =
      rw (opened, le-ltb b 128 l, lt-ltb b 256 u) refl in
      f ∙ sym (ap (numbered s) g)

  -- another byte follows
  module _ (k : ℕ) (z : k ≡ 0 → ⊥) (u : b < 256) (o : Option (ℕ × ℕ))
      (r : o ≡ numbered s (little_r (k - 1) (drop (at + 1) s))) where
    next : little_r k (drop at s) ≡ bind (little_r (k - 1) (drop (at + 1) s)) (λ h t. some (b + 256 * h, t))
    next = let i : k ≡ suc (k - 1) = omega arith in ap (λ k. little_r k (drop at s)) i
        ∙ rw (opened, lt-ltb b 256 u) refl

    module _ (n q : ℕ) (f : o ≡ Some (n, q)) where
      others : NumberGot (little_r (k - 1)) s (at + 1) n q
      others = got (little_law (k - 1)) s (at + 1) n q o r f

      pub little_below : k ≤ 8 → n < 2 ^ 56
      little_below h = let i : k - 1 ≤ 7 = omega arith in let p : 256 ^ (k - 1) ≤ 256 ^ 7 =
          pow-le-pow_right (omega arith) i in omega (arith, got_fits (little_law (k - 1)) s (at + 1) n q others)
