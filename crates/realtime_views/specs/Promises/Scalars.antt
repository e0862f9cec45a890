-- Promise. The last scalars of a message, by their fields, along a path of messages of which all occurrences are
-- merged.
use Rattle.std.specs.Prelude.{ℕ, ◌+◌, ◌≤◌, ◌≡◌, refl, List, [], ◌∷◌, Bool, true, false, cond, eqb, length, take, drop}
use Rattle.std.proofs.Common.{ap, arith}
use Rattle.std.proofs.Math.Option.{Option, none, some}
use Rattle.realtime.specs.Tree.{Kind, a_number, a_text, a_message, Schema, Tree, Leaf, count, words, tree, last, sub}
use Rattle.realtime.specs.Schema.{feed, feed_entity, trip_update}
use Rattle.realtime_views.specs.Promises.Fold.{Takes, inside, Made}
use Rattle.realtime_views.specs.Promises.Last.{Single, taking, each}
use Rattle.realtime_views.specs.Laws.Reading.{front_part}
use Rattle.realtime_views.specs.Promises.Reading.{Lens, Ready, Reads}
use Rattle.realtime_views.specs.declared.Scalar.{Scalar}
use Rattle.realtime_views.specs.declared.Scalars.{Scalars}
use Rattle.realtime_views.specs.declared.TripScalars.{TripScalars}

-- what a scalar of the code says of the bytes, and where it lies
abbrev pub said : List ℕ → Scalar → Option Leaf
said s (Scalar.Number n) = some (count n)
said s (Scalar.Text i l) = some (words (take l (drop i s)))
said s Scalar.Nothing = none

abbrev pub Lying : ℕ → Scalar → Type 0
Lying n (Scalar.Number k) = Unit {0}
Lying n (Scalar.Text i l) = i + l ≤ n
Lying n Scalar.Nothing = Unit {0}

pub lying_far : (n m : ℕ) (d : Scalar) → n ≤ m → Lying n d → Lying m d
lying_far n m (Scalar.Number k) h l = tt
lying_far n m (Scalar.Text i k) h l = omega arith
lying_far n m Scalar.Nothing h l = tt

pub said_front : (s : List ℕ) (n : ℕ) (d : Scalar) → n ≤ length s → Lying n d → said (take n s) d ≡ said s d
said_front s n (Scalar.Number k) h l = refl
said_front s n (Scalar.Text i k) h l = ap (λ x. some (words x)) (front_part s n i k l h)
said_front s n Scalar.Nothing h l = refl

-- one alone as an answer that has positions. The laws above are the lens's
abbrev pub scalar : Lens Scalar (Option Leaf)
scalar = record { look = said; In = Lying; far = lying_far; front = said_front }

-- the fields of the code's scalars, and their numbers
pub data Slot : Type 0 where
  one : Slot
  two : Slot
  three : Slot
  four : Slot
  five : Slot
  six : Slot

abbrev pub field_of : Slot → ℕ
field_of one = 1
field_of two = 2
field_of three = 3
field_of four = 4
field_of five = 5
field_of six = 6

abbrev pub at : Scalars → Slot → Scalar
at d one = d.f1
at d two = d.f2
at d three = d.f3
at d four = d.f4
at d five = d.f5
at d six = d.f6

abbrev pub Lasts : Type 0
Lasts = Slot → Option Leaf

-- all as an answer that has positions, with the lens's laws
pub scalars_far : (n m : ℕ) (d : Scalars) → n ≤ m → ((i : Slot) → Lying n (at d i)) → (i : Slot) → Lying m (at d i)
scalars_far n m d h l i = lying_far n m (at d i) h (l i)

pub scalars_front : (s : List ℕ) (n : ℕ) (d : Scalars) → n ≤ length s → ((i : Slot) → Lying n (at d i))
    → ◌≡◌ {A = Lasts} (λ i. said (take n s) (at d i)) (λ i. said s (at d i))
scalars_front s n d h l = λ j i. said_front s n (at d i) h (l i) j

abbrev pub scalars : Lens Scalars Lasts
scalars =
    record {
      look = λ s d i. said s (at d i);
      In = λ n d. (i : Slot) → Lying n (at d i);
      far = scalars_far;
      front = scalars_front;
    }

-- the scalar x is kept at its field f
abbrev pub kept : Scalars → ℕ → Scalar → Scalars
kept d f x = record {
  f1 = cond (eqb f 1) x d.f1;
  f2 = cond (eqb f 2) x d.f2;
  f3 = cond (eqb f 3) x d.f3;
  f4 = cond (eqb f 4) x d.f4;
  f5 = cond (eqb f 5) x d.f5;
  f6 = cond (eqb f 6) x d.f6;
}

abbrev pub blank : Scalars
blank = record {
  f1 = Scalar.Nothing;
  f2 = Scalar.Nothing;
  f3 = Scalar.Nothing;
  f4 = Scalar.Nothing;
  f5 = Scalar.Nothing;
  f6 = Scalar.Nothing;
}

-- a scalar as it stands, none where it is absent
abbrev pub scalar_at : ℕ → Single (Option Leaf)
scalar_at k = record { field = k; number = λ n. some (count n); text = λ x. some (words x) }

-- how the fields of a message are taken, one after the other, and those along a path of messages
abbrev pub own : Takes Lasts
own = each (λ i. scalar_at (field_of i))

abbrev pub takes_along : List ℕ → Takes Lasts
takes_along [] = own
takes_along (p ∷ ps) = inside p (takes_along ps)

-- of the messages at field a, which are of type u, whatever type the message has
pub record FieldReads (a u : ℕ) (s : List ℕ) (from : ℕ) (d r : Scalars) : Type 0 where
  pub of : (t : ℕ) → feed t a ≡ some (a_message u)
      → Made (takes_along (a ∷ [])) (scalars.look s d) feed t s from (scalars.look s r)
  pub within : scalars.In (length s) r

-- a number or a text
abbrev pub is_scalar : Option Kind → Bool
is_scalar none = false
is_scalar (some a_number) = true
is_scalar (some a_text) = true
is_scalar (some (a_message u)) = false

-- of field k alone, in every type that lists it as a scalar, and of that of the messages at field a
pub record OneReads (k : ℕ) (s : List ℕ) (from : ℕ) (d r : Scalar) : Type 0 where
  pub of : (t : ℕ) → is_scalar (feed t k) ≡ true → Made (taking (scalar_at k)) (said s d) feed t s from (said s r)
  pub within : Lying (length s) r

pub record OneReadsIn (a k : ℕ) (s : List ℕ) (from : ℕ) (d r : Scalar) : Type 0 where
  pub of : (t u : ℕ) → feed t a ≡ some (a_message u) → is_scalar (feed u k) ≡ true
      → Made (inside a (taking (scalar_at k))) (said s d) feed t s from (said s r)
  pub within : Lying (length s) r

-- of a trip_update: its trips, 1, and its delay, 5; of an entity, the same of all its trip_updates, 3
pub record TripReady (s : List ℕ) (from : ℕ) (b : TripScalars) : Type 0 where
  pub trip : Ready scalars s from b.trip
  pub delay : Ready scalar s from b.delay

pub record UpdateReads (s : List ℕ) (from : ℕ) (b r : TripScalars) : Type 0 where
  pub trip : Reads scalars (takes_along (1 ∷ [])) feed trip_update s from b.trip r.trip
  pub delay : Reads scalar (taking (scalar_at 5)) feed trip_update s from b.delay r.delay

pub record TripReads (s : List ℕ) (from : ℕ) (r : TripScalars) : Type 0 where
  pub trip : Reads scalars (takes_along (3 ∷ 1 ∷ [])) feed feed_entity s from blank r.trip
  pub delay : Reads scalar (inside 3 (taking (scalar_at 5))) feed feed_entity s from Scalar.Nothing r.delay

-- THE ANSWER r for the message of type t in l bytes at i of s: where it is not broken, the last scalar at field k of
-- what `inner` takes of it, itself or the messages at a field merged. A text lies in s
pub record ScalarRead (σ : Schema) (t : ℕ) (s : List ℕ) (i l : ℕ) (inner : Tree → Tree) (k : ℕ) (r : Scalar) : Type 0
  where
    pub of : (m : Tree) → tree σ t (take l (drop i s)) ≡ some m → said s r ≡ last k (inner m)
    pub within : Lying (length s) r

-- whatever type that message has
abbrev pub OneRead : ℕ → List ℕ → ℕ → ℕ → Scalar → Type 0
OneRead k s i l r = (t : ℕ) → is_scalar (feed t k) ≡ true → ScalarRead feed t s i l (λ m. m) k r

abbrev pub OneReadIn : ℕ → ℕ → List ℕ → ℕ → ℕ → Scalar → Type 0
OneReadIn a k s i l r =
    (t u : ℕ) → feed t a ≡ some (a_message u) → is_scalar (feed u k) ≡ true → ScalarRead feed t s i l (sub a) k r
