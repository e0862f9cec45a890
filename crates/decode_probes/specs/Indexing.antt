-- Believe: the probes' answers. What `trips_index` answers: the first question with the answer no, or what a message
-- leaves.
use Rattle.std.specs.Prelude.{ℕ, zero, suc, ◌-◌, Bool, false, ◌&&◌, cond, List, [], eqb, leb, ltb, length, Option, Some, None}
use Rattle.std.proofs.Math.Option.{Option as LogicOption, none, some}
use Rattle.decode.specs.Sizes.{most_trips, most_updates, most_feed, most_message}
use Rattle.decode.specs.Sizes.{keys_length, marks_length, order_length, most_old}
use Rattle.formats.specs.Format.{list, read}
use Rattle.formats_judge.specs.Judged.{judge_to}
use Rattle.realtime.specs.Tree.{tree}
use Rattle.realtime.specs.Schema.{feed_message, feed_entity}
use Rattle.realtime.specs.Schema as schema
use Rattle.realtime.specs.Judge.{asked, rules}
use Rattle.decode.specs.Trip.{StopUpdate, trip_entry}
use Rattle.maps.specs.Map.{puts}
use Rattle.maps.specs.Order.{texts}
use Rattle.decode.specs.Record.{updates_in}
use Rattle.decode.specs.Leaves.{Trips, leaves}
use Rattle.decode_index.specs.Message.{message_tree}
use Rattle.decode_index.specs.Leaving.{Leaving, many_trips, many_updates, trips, leaving}
use Rattle.decode_probes.specs.Answers.{question_of, of_whole}

-- the lengths of the working slices
abbrev pub sized : ℕ → ℕ → ℕ → Bool
sized keys marks order = (eqb keys keys_length && eqb marks marks_length) && eqb order order_length

abbrev pub unfailed : Option (ℕ × ℕ) → Bool
unfailed None = false
unfailed (Some (p, x)) = eqb x 0

-- the trips with which bytes begin
abbrev pub trips_read : LogicOption (Trips × List ℕ) → Trips
trips_read none = []
trips_read (some x) = x.0

abbrev pub old_trips : List ℕ → Trips
old_trips o = trips_read (read (list most_trips trip_entry) o)

-- they are within questions 5 to 7
abbrev pub are_old : List ℕ → Bool
are_old o = leb (length o) most_old && unfailed (judge_to (list most_trips trip_entry) o 0)

-- question 5 asks for the feed's id, too
abbrev pub judged_question : Bool → ℕ → ℕ
judged_question short q = cond (eqb q 4) 4 (cond short q 5)

abbrev pub message_question : List ℕ → List ℕ → ℕ
message_question feed s =
    cond (leb (length s) most_message)
    (judged_question (leb (length feed) most_feed)
    (question_of (asked rules feed_message (tree schema.feed feed_message s)))) 3

abbrev pub question : Bool → List ℕ → List ℕ → List ℕ → ℕ
question fit feed s old = cond fit (cond (are_old old) (message_question feed s) 2) 1

-- A QUESTION with the answer no, or what is left
pub data IndexOutcome (A : Type 0) : Type 0 where
  refused : ℕ → IndexOutcome A
  left : A → IndexOutcome A

abbrev pub seven_of : Leaving → IndexOutcome Trips
seven_of many_trips = refused 7
seven_of many_updates = refused 7
seven_of (trips t) = left t

abbrev pub unless_asked : ℕ → IndexOutcome Trips → IndexOutcome Trips
unless_asked zero x = x
unless_asked (suc n) x = refused (suc n)

abbrev pub outcome : Bool → List ℕ → List ℕ → List ℕ → IndexOutcome Trips
outcome fit feed s old =
    unless_asked (question fit feed s old)
    (seven_of (leaving (leaves feed (message_tree s) (puts texts (old_trips old) []))))

-- what the answer says, where n slots or lines hold t n
abbrev pub answered : {A : Type 0} → (ℕ → A) → ℕ → IndexOutcome A
answered t r = cond (ltb r 16) (refused r) (left (t (r - 16)))

-- The updates of an entity: more than 128 are refused
abbrev pub limited : List (ℕ × StopUpdate) → IndexOutcome (List (ℕ × StopUpdate))
limited l = cond (ltb most_updates (length l)) (refused 7) (left l)

abbrev pub updates_outcome : Bool → List ℕ → IndexOutcome (List (ℕ × StopUpdate))
updates_outcome fit e =
    cond fit (cond (leb (length e) most_message)
    (of_whole (refused 4) (λ m. limited (updates_in m)) (tree schema.feed feed_entity e)) (refused 3)) (refused 1)
