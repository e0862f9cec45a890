-- Promise. Judgements of parts, put together.
use Rattle.std.specs.Prelude.{Bool, true, false}
use Rattle.realtime.specs.declared.Verdict.{Verdict}

abbrev pub fine : Verdict → Bool
fine Verdict.Broken = false
fine Verdict.Text = false
fine Verdict.Time = false
fine Verdict.Fine = true

-- Of two judgements of parts, the one that is asked first
abbrev pub asked_first : Verdict → Verdict → Verdict
asked_first Verdict.Broken b = Verdict.Broken
asked_first Verdict.Text Verdict.Broken = Verdict.Broken
asked_first Verdict.Text Verdict.Text = Verdict.Text
asked_first Verdict.Text Verdict.Time = Verdict.Text
asked_first Verdict.Text Verdict.Fine = Verdict.Text
asked_first Verdict.Time Verdict.Broken = Verdict.Broken
asked_first Verdict.Time Verdict.Text = Verdict.Text
asked_first Verdict.Time Verdict.Time = Verdict.Time
asked_first Verdict.Time Verdict.Fine = Verdict.Time
asked_first Verdict.Fine b = b
