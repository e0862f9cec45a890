-- Believe: 01, Overlay. The keys of a trip record, as `insert_trip` and `incomplete_trip_key` make them. Each stands
-- without the feed and ':' in front.
use Rattle.std.specs.Prelude.{ℕ, zero, suc, ◌+◌, ◌-◌, ◌/◌, ◌%◌, Bool, cond, ◌&&◌, ◌||◌, not, List, [], ◌∷◌, ◌++◌, ltb, leb, length, take}
use Rattle.std.proofs.Common.{inl, inr}
use Rattle.formats.specs.Class.{printable, in_class}
use Rattle.realtime.specs.Tree.{Tree}
use Rattle.realtime.specs.Views.{trip, deleted}
use Rattle.decode.specs.Trip.{Trip, date_of, route_of, direction_of, time_of}
use Rattle.basics.specs.Options.{Maybe}
use Rattle.basics.specs.Texts.{same}
use Rattle.decode.specs.Record.{trip_in}
use Rattle.basics.specs.Lists.{is_empty}

-- a number below ten to the k in decimal
abbrev pub decimal_of : ℕ → ℕ → List ℕ
decimal_of zero n = []
decimal_of (suc k) n = cond (ltb n 10) ((48 + n) ∷ []) (decimal_of k (n / 10) ++ (48 + n % 10) ∷ [])

abbrev pub decimal : ℕ → List ℕ
decimal n = decimal_of 10 n

abbrev pub direction_text : Maybe ℕ → List ℕ
direction_text (inl a) = []
direction_text (inr n) = decimal n

-- feed:x, and nothing where x is absent
abbrev pub prefixed : List ℕ → List ℕ → List ℕ
prefixed feed x = cond (is_empty x) [] (feed ++ 58 ∷ x)

-- raw@date
abbrev pub dated_key : List ℕ → List ℕ → List ℕ
dated_key raw date = raw ++ 64 ∷ date

-- #r=feed:route&d=direction and then &sd=date&st=time
abbrev pub head_of : List ℕ → List ℕ → Maybe ℕ → List ℕ
head_of feed route direction =
    (35 ∷ 114 ∷ 61 ∷ []) ++ prefixed feed route ++ (38 ∷ 100 ∷ 61 ∷ []) ++ direction_text direction

abbrev pub tail_of : List ℕ → List ℕ → List ℕ
tail_of date time = (38 ∷ 115 ∷ 100 ∷ 61 ∷ []) ++ date ++ (38 ∷ 115 ∷ 116 ∷ 61 ∷ []) ++ time

unfoldable pub incomplete_key : List ℕ → Trip → List ℕ
incomplete_key feed t = head_of feed (route_of t) (direction_of t) ++ tail_of (date_of t) (time_of t)

-- what `insert_trip` puts where, by the raw trip id: nothing without a trip id and a route
abbrev pub inserts : List ℕ → List ℕ → Trip → List (List ℕ × Trip)
inserts feed [] t = cond (is_empty (route_of t)) [] ((incomplete_key feed t, t) ∷ [])
inserts feed (b ∷ raw) t =
    cond (is_empty (date_of t)) ((b ∷ raw, t) ∷ []) ((dated_key (b ∷ raw) (date_of t), t) ∷ (b ∷ raw, t) ∷ [])

-- and of an entity: a deleted one is passed over
unfoldable pub entries_in : List ℕ → Tree → List (List ℕ × Trip)
entries_in feed e = cond (deleted e) [] (inserts feed (trip e).id (trip_in e))

-- Which keys a record may have: that of some raw id, that id with its date, or the incomplete one
abbrev pub raw_ok : List ℕ → Bool
raw_ok x = not (is_empty x) && (leb (length x) 64 && in_class printable x)

abbrev pub dated_ok : List ℕ → List ℕ → Bool
dated_ok d x =
    let n = length x - suc (length d) in not (is_empty d) && (raw_ok (take n x) && same x (dated_key (take n x) d))

unfoldable pub key_ok : List ℕ → List ℕ → Trip → Bool
key_ok feed x t = raw_ok x || (dated_ok (date_of t) x || same x (incomplete_key feed t))
