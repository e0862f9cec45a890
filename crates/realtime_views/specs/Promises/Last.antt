-- Promise. The last value of a field, by what is made of it: THE ONE NOTION behind every reader of a message. A reader
-- keeps one field, or several side by side.
use Rattle.std.specs.Prelude.{ℕ, List, cond, eqb}
use Rattle.realtime_views.specs.Promises.Fold.{Takes}

-- a field alone, and what is made of its number and of its text
pub record Single (B : Type 0) : Type 0 where
  pub field : ℕ
  pub number : ℕ → B
  pub text : List ℕ → B

-- a later one is taken over an earlier one
abbrev pub taking : {B : Type 0} → Single B → Takes B
taking o = record {
  number = λ v f n. cond (eqb f o.field) (o.number n) v;
  text = λ v f x. cond (eqb f o.field) (o.text x) v;
  message = λ v f m. v;
}

-- several fields side by side
abbrev pub each : {I B : Type 0} → (I → Single B) → Takes (I → B)
each o = record {
  number = λ v f n i. (taking (o i)).number (v i) f n;
  text = λ v f x i. (taking (o i)).text (v i) f x;
  message = λ v f m. v;
}
