-- Believe: 01, History. A script: calls as bytes, each with its arguments except the overlay and with the lengths of
-- its output and of its working buffers, of the script's own choosing.
use Rattle.std.specs.Prelude.{ℕ, suc, ◌+◌, Bool, true, false, cond, ◌&&◌, List, [], ◌∷◌, map, ℤ, pos, negsuc, eqb, leb, get_or}
use Rattle.std.proofs.Math.Option.{Option, none, some}
use Rattle.basics.specs.Lists.{all}
use Rattle.basics.specs.Options.{bind_o}
use Rattle.formats.specs.Class.{any}
use Rattle.formats.specs.Format.{Format, number, signed, small, text, list, ◌&◌, Value}
use Rattle.panel.specs.Questions.{Lengths, whole}
use Rattle.panel.specs.Calls.{Call, fresh, message, alert_sheet, vehicle_sheet, card, report, feed_alerts, out_of, writes}

abbrev pub most64 : ℕ
most64 = 18446744073709551615

abbrev pub clock_form : Format
clock_form = signed (negsuc 9223372036854775807) (pos 9223372036854775807)

abbrev pub length_form : Format
length_form = number 0 most64

abbrev pub lengths_form : Format
lengths_form = list most64 length_form

-- a call: its kind; a feed id; a message, sheet or card; a clock; the lengths of its output and of its working
-- buffers. What a kind does not take is passed over
abbrev pub call_form : Format
call_form =
    small 5
    & text most64 any
    & text most64 any
    & clock_form
    & length_form
    & lengths_form

abbrev pub script : Format
script = list most64 call_form

-- as many lengths as a call has working buffers, from length i on; a missing one is 0
abbrev pub lengths_from : ℕ → List ℕ → List ℕ → List ℕ
lengths_from i [] w = []
lengths_from i (x ∷ xs) w = get_or w i 0 ∷ lengths_from (suc i) xs w

abbrev pub as_many : List ℕ → List ℕ → List ℕ
as_many due w = lengths_from 0 due w

abbrev pub call_by : Lengths → ℕ → List ℕ → List ℕ → ℤ → ℕ → List ℕ → Call
call_by L kind f bytes clock out work =
    cond (eqb kind 0) (fresh out)
    (cond (eqb kind 1) (message f bytes out (as_many L.work.message work))
    (cond (eqb kind 2) (alert_sheet f bytes out (as_many L.work.alert_sheet work))
    (cond (eqb kind 3) (vehicle_sheet f bytes clock out (as_many L.work.vehicle_sheet work))
    (cond (eqb kind 4) (card bytes out (as_many L.work.card work)) (report f out)))))

abbrev pub call_of : Lengths → Value call_form → Call
call_of L v = call_by L v.0 v.1.0 v.1.1.0 v.1.1.1.0 v.1.1.1.1.0 v.1.1.1.1.1

unfoldable pub calls_of : Lengths → Value script → List Call
calls_of L v = map (call_of L) v

-- what of a call stands in a replay's output: its number, and of a card or a report every byte of its output;
-- nothing of a new overlay
abbrev pub standing : Call → ℕ
standing c = cond (writes c) 0 (out_of c)

unfoldable pub size_of : List Call → ℕ
size_of [] = 0
size_of (c ∷ cs) = suc (standing c) + size_of cs

-- what is lent to a replay: the lengths of an overlay's buffer, of the replay's output and of the working buffers
pub record Lent : Type 0 where
  pub overlay : ℕ
  pub output : ℕ
  pub message_work : List ℕ
  pub card_work : List ℕ

abbrev pub within : List ℕ → List ℕ → Bool
within [] lent = true
within (n ∷ ns) [] = false
within (n ∷ ns) (m ∷ lent) = leb n m && within ns lent

-- whether the buffers that a call asks for are parts of those that are lent
abbrev pub lends : Lent → Call → Bool
lends R (fresh new) = leb new R.overlay
lends R (message f m new work) = within work R.message_work && leb new R.overlay
lends R (alert_sheet f sheet new work) = within work [] && leb new R.overlay
lends R (vehicle_sheet f sheet clock new work) = within work [] && leb new R.overlay
lends R (card bytes out work) = within work R.card_work
lends R (report f out) = true
lends R (feed_alerts f m out) = true

abbrev pub lent_all : Lent → List Call → Option (List Call)
lent_all R cs = cond (all (lends R) cs && leb (size_of cs) R.output) (some cs) none

-- THE CALLS OF A SCRIPT, where it is one for these buffers
unfoldable pub calls_in : Lengths → Lent → List ℕ → Option (List Call)
calls_in L R s = bind_o (whole script s) (λ v. cond (leb L.overlay R.overlay) (lent_all R (calls_of L v)) none)
