-- Promise. The first of the questions 3 to 5 of a message of alerts whose answer is no.
use Rattle.std.specs.Prelude.{Bool, cond, List, ℕ, ◌-◌, leb, length}
use Rattle.realtime.specs.Tree.{tree}
use Rattle.realtime.specs.Schema.{alert_message, feed}
use Rattle.realtime.specs.Judge.{rules_by, asked}
use Rattle.realtime.specs.declared.Verdict.{Verdict}
use Rattle.panel.specs.Questions.{feed_ok}

-- the first of the questions 4 and 5, whose feed's id has a name's form or not; its numbers are not asked
abbrev pub number_by : Verdict → Bool → ℕ
number_by Verdict.Broken b = 4
number_by Verdict.Text b = 5
number_by Verdict.Time b = cond b 0 5
number_by Verdict.Fine b = cond b 0 5

-- the first of the questions 3 to 5
abbrev pub alerts_number : List ℕ → List ℕ → ℕ
alerts_number f m =
    cond (leb (length m) 1048576)
    (number_by (asked (rules_by (63 - length f)) alert_message (tree feed alert_message m)) (feed_ok f)) 3
