-- Promise. What is said of a line where the lines that a folded text names are marked.
use Rattle.std.specs.Prelude.{◌≡◌, List, ◌++◌, Bool, true, false, not, ◌&&◌, ℕ, ◌+◌, ◌<◌, length, replicate}
use Rattle.basics.specs.Lists.{any}
use Rattle.alerts.specs.Text.{text, upper}
use Rattle.alerts.specs.Applies.{fold_alert_blob, commercial_lines_in_text}
use Rattle.alerts.specs.Promises.Reduced.{secondary, text_ok}
use Rattle.alerts_lines.specs.Promises.Lines.{named_of, all_lines, other_subject, IsLine}
use Rattle.alerts_lines.specs.Promises.Marks.{Lines}
use Rattle.alerts_text.specs.declared.lines.Settled.{Settled}
use Rattle.alerts_text.specs.declared.lines.Settled.TheVariants.{Right, Wrong, Open}

-- whether a text may be about a line
abbrev pub ok_for : List ℕ → List ℕ → Bool
ok_for s u = text_ok s (commercial_lines_in_text s) u

-- where it names the line and others: not where it names it as advice and is about another
abbrev pub not_advised : List ℕ → List ℕ → Bool
not_advised s u = not (secondary s u && any (other_subject s u) all_lines)

pub record Others (s named : List ℕ) (own : ℕ) (r : Bool) : Type 0 where
  pub is : {u : List ℕ} → Lines (named_of s) named → IsLine u own → r ≡ any (other_subject s u) all_lines

abbrev pub answered : Settled → Bool → Bool
answered Right x = true
answered Wrong x = false
answered Open x = x

pub record Settles (named : List ℕ) (own : ℕ) (r : Settled) : Type 0 where
  pub is : (s : List ℕ) {u : List ℕ} → Lines (named_of s) named → IsLine u own
      → ok_for s u ≡ answered r (not_advised s u)

pub record Opened (s named u : List ℕ) (own : ℕ) (r : Bool) : Type 0 where
  pub is : Lines (named_of s) named → IsLine u own → r ≡ not_advised s u

pub record MarkedOk (s named u : List ℕ) (r : Bool) : Type 0 where
  pub is : Lines (named_of s) named → r ≡ ok_for s u

-- an alert's texts as they are searched
abbrev pub blob_of : List ℕ → List ℕ → List ℕ
blob_of h d = fold_alert_blob (h ++ text " " ++ d)

-- room for them, with a space between, and a line's name behind
pub record Roomy (h d short out : List ℕ) : Type 0 where
  pub fits : length h + length d + length short < length out

-- the answers, from a buffer that keeps its length
pub record NamedFits (named h d short : List ℕ) (r : Bool) (old new : List ℕ) : Type 0 where
  pub kept : length new ≡ length old
  pub is : Lines (named_of (blob_of h d)) named → r ≡ ok_for (blob_of h d) (upper short)

pub record FirstFits (h d short : List ℕ) (r : Bool) (old new before after : List ℕ) : Type 0 where
  pub kept : length new ≡ length old
  pub marks : length after ≡ length before
  pub is : before ≡ replicate 32 0 → r ≡ ok_for (blob_of h d) (upper short)
  pub lines : before ≡ replicate 32 0 → Lines (named_of (blob_of h d)) after

pub record SettlesName (named short : List ℕ) (r : Settled) (old new : List ℕ) : Type 0 where
  pub kept : length new ≡ length old
  pub is : (s : List ℕ) → Lines (named_of s) named → ok_for s (upper short) ≡ answered r (not_advised s (upper short))
