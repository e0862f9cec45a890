-- Law. A turn of a loop over a walk: what holds of the messages that are left.
use Rattle.std.specs.Prelude.{ℕ, ◌+◌, ◌≤◌, ◌<◌, ◌≡◌, List, [], ◌∷◌, length, take, drop}
use Rattle.std.proofs.Common.{sym, ap, subst, ◌∙◌, arith, length-take}
use Rattle.std.proofs.Math.Option.{some, map}
use Rattle.realtime.specs.Tree.{Schema, Tree, tree}
use Rattle.realtime_views.specs.Laws.Reading.{front_part}
use Rattle.realtime_views.specs.Laws.Walks.{found, yielded}
use Rattle.realtime_views.specs.Promises.Walks.{left, SoundWalk, Yields, ahead}
use Rattle.realtime_views.specs.declared.Walk.{Walk}
use Rattle.realtime_views.specs.declared.Item.{Item}

-- the trees that a walk in x has left
pub record Left (σ : Schema) (t a u k : ℕ) (x : List ℕ) (w : Walk) (P : List Tree → Type 0) : Type 0 where
  pub trees : List Tree
  pub left : left σ t a u k x w ≡ some trees
  pub holds : P trees

-- a walk in the message e, of type m, in `len` bytes at `start`: P e holds of what is left
pub record Walked (σ : Schema) (t a u k m : ℕ) (s : List ℕ) (start len : ℕ) (P : Tree → List Tree → Type 0) (w : Walk) :
    Type 0 where
  pub inside : start + len ≤ length s
  pub sound : SoundWalk (take (start + len) s) w.outer w.end w.at
  pub of : (e : Tree) → tree σ m (take len (drop start s)) ≡ some e → Left σ t a u k (take (start + len) s) w (P e)

pub front_length : (s : List ℕ) (n : ℕ) → n ≤ length s → length (take n s) ≡ n
front_length s n h = omega (arith, length-take n s)

-- all are left
pub starts : {σ : Schema} {t a u k m : ℕ} (s : List ℕ) (start len : ℕ) {P : Tree → List Tree → Type 0} {w : Walk}
    (sought : Tree → List Tree) → start + len ≤ length s → SoundWalk (take (start + len) s) w.outer w.end w.at
    → left σ t a u k (take (start + len) s) w ≡ map sought (tree σ m (take len (drop start s)))
    → ((e : Tree) → P e (sought e)) → Walked σ t a u k m s start len P w
starts s start len sought i z l p = record {
  inside = i;
  sound = z;
  of = λ e q. record { trees = sought e; left = l ∙ ap (map sought) q; holds = p e };
}

module _ {σ : Schema} {t a u k m : ℕ} {s : List ℕ} {start len : ℕ} {P : Tree → List Tree → Type 0} {w : Walk}
    (W : Walked σ t a u k m s start len P w) {x : List ℕ} (X : x ≡ take (start + len) s) where
  pub walks : SoundWalk x w.outer w.end w.at
  walks = rw X W.sound

  module _ {v : ℕ} {r : Item} (N : Yields σ t a u k v x w r) where
    next : Yields σ t a u k v (take (start + len) s) w r
    next = rw X at N

    -- none is left
    pub ends : r ≡ Item.Done → (e : Tree) → tree σ m (take len (drop start s)) ≡ some e → P e []
    ends d e q = let L = W.of e q in subst (P e) (yielded next d L.trees L.left) L.holds

    module _ {i l : ℕ} {w' : Walk} (g : r ≡ Item.At i l w') where
      before : i + l ≤ start + len
      before = omega (arith, (found next g).inside, front_length s (start + len) W.inside)

      pub there : i + l ≤ length s
      there = omega (arith, before, W.inside)

      pub less : ahead (take (start + len) s) w' < ahead (take (start + len) s) w
      less = (found next g).less

      -- the first of those that are left is passed
      pub walks_on : {Q : Tree → List Tree → Type 0}
          → ((e y : Tree) (z : List Tree) → tree σ m (take len (drop start s)) ≡ some e
          → tree σ v (take l (drop i s)) ≡ some y → P e (y ∷ z) → Q e z)
          → Walked σ t a u k m s start len Q w'
      walks_on h = record {
        inside = W.inside;
        sound = (found next g).sound;
        of = λ e q.
            let L = W.of e q in
            let (y, z, f, o, r) = yielded next g L.trees L.left in
            let o' : tree σ v (take l (drop i s)) ≡ some y = ap (tree σ v)
            (sym (front_part s (start + len) i l before W.inside)) ∙ o in
            record { trees = z; left = r; holds = h e y z q o' (subst (P e) f L.holds) };
      }
