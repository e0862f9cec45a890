-- Law. A message's questions in their order, and what an accepted one leaves.
use Rattle.std.specs.Prelude.{◌≡◌, Bool, true, false, cond, ◌&&◌, List, [], ◌∷◌, ℕ, ◌≤◌, ◌<◌, leb, replicate, Option}
use Rattle.std.proofs.Math.Path.{refl, sym, ap}
use Rattle.std.proofs.Common.{◌∙◌, arith, leb-true, le-leb}
use Rattle.std.proofs.Math.Option.{Option as LogicOption, none, some}
use Rattle.std.proofs.Math.ListN.{length, get_or}
use Rattle.std.proofs.lemmas.Bool.{lt-leb}
use Rattle.basics.specs.Texts.{same}
use Rattle.basics.specs.Laws.Booleans.{both_true}
use Rattle.basics.specs.Laws.Texts.{same_true}
use Rattle.formats.specs.Class.{token, in_class}
use Rattle.realtime.specs.Tree.{Tree, tree}
use Rattle.realtime.specs.Schema.{feed_message, feed}
use Rattle.realtime.specs.Judge.{rules, asked, texts_fine, numbers_fine}
use Rattle.realtime.specs.declared.Verdict.{Verdict}
use Rattle.decode.specs.Sizes.{keys_length, marks_length, order_length, most_feed, most_old}
use Rattle.decode_slots.specs.Promises.Index.{Lent}
use Rattle.decode_index.specs.Promises.Message.{JudgedMessage}
use Rattle.overlay.specs.Image.{state_of}
use Rattle.overlay.specs.Change.{after_message}
use Rattle.overlay_open.specs.Promises.Held.{Open}
use Rattle.overlay_message.specs.Promises.Message.{Leads}
use Rattle.panel.specs.Outcome.{Outcome, refused, need, need_some}
use Rattle.panel.specs.Questions.{feed_ok}
use Rattle.panel.specs.Message.{message_asks, tree_asks}
use Rattle.panel.specs.Calls as calls
use Rattle.panel.specs.Given.{Given}
use Rattle.panel.specs.Lengths.{sized}
use Rattle.panel.specs.Promises.Ends.{changed_state, tree_outcome}
use Rattle.panel_output.specs.declared.Ending.{Ending}
use Rattle.panel_output.specs.declared.Ending.TheVariants.{Refused}
use Rattle.panel_output.specs.Laws.Changed.{changed_outcome}
use Rattle.panel_output.specs.Laws.Ends.{cleared}
use Rattle.panel_output.specs.Promises.Ending.{outcome_of, put_ending, Finished}
use Rattle.panel_output.specs.Promises.Ends.{Ends, Zeros}
use Rattle.panel_message.specs.Promises.Message.{message_number, number_by}

-- ---- the questions 3 to 6

-- by what is said of the texts, of the numbers and of the feed's id
verdict_refused : (x y b : Bool) (k : Outcome) (n : ℕ)
    → n ≡ number_by (cond x (cond y Verdict.Fine Verdict.Time) Verdict.Text) b → (n ≡ 0 → ⊥)
    → refused n ≡ need (b && x) 5 (need y 6 k)
verdict_refused true true true k n e z = absurd (z e)
verdict_refused true true false k n e z = ap refused e
verdict_refused true false true k n e z = ap refused e
verdict_refused true false false k n e z = ap refused e
verdict_refused false y true k n e z = ap refused e
verdict_refused false y false k n e z = ap refused e

module _ (f : List ℕ) (k : Tree → Outcome) where
  abbrev chain : Bool → LogicOption Tree → Outcome
  chain short o =
      need short 3 (need_some o 4 (λ t.
      need (feed_ok f && texts_fine rules feed_message t) 5 (need (numbers_fine rules feed_message t) 6 (k t))))

  chain_refused : (short : Bool) (o : LogicOption Tree) (n : ℕ)
      → n ≡ cond short (number_by (asked rules feed_message o) (feed_ok f)) 3 → (n ≡ 0 → ⊥) → refused n ≡ chain short o
  chain_refused false o n e z = ap refused e
  chain_refused true none n e z = ap refused e
  chain_refused true (some t) n e z =
      verdict_refused (texts_fine rules feed_message t) (numbers_fine rules feed_message t) (feed_ok f) (k t) n e z

-- where all have the answer yes
record Yes (x y b : Bool) : Type 0 where
  texts : x ≡ true
  numbers : y ≡ true
  named : b ≡ true

verdict_fine : (x y b : Bool) → 0 ≡ number_by (cond x (cond y Verdict.Fine Verdict.Time) Verdict.Text) b → Yes x y b
verdict_fine true true true e = record { texts = refl; numbers = refl; named = refl }
verdict_fine true true false e = absurd (omega arith)
verdict_fine true false true e = absurd (omega arith)
verdict_fine true false false e = absurd (omega arith)
verdict_fine false y true e = absurd (omega arith)
verdict_fine false y false e = absurd (omega arith)

pub record Passed (f m : List ℕ) : Type 0 where
  pub short : leb (length m) 1048576 ≡ true
  pub message : Tree
  pub read : tree feed feed_message m ≡ some message
  pub texts : texts_fine rules feed_message message ≡ true
  pub numbers : numbers_fine rules feed_message message ≡ true
  pub named : feed_ok f ≡ true

pub passed : (f m : List ℕ) → 0 ≡ message_number f m → Passed f m
passed f m e = go (leb (length m) 1048576) refl (tree feed feed_message m) refl e
  where
    go : (a : Bool) → leb (length m) 1048576 ≡ a → (o : LogicOption Tree) → tree feed feed_message m ≡ o
        → 0 ≡ cond a (number_by (asked rules feed_message o) (feed_ok f)) 3 → Passed f m
    go false i o j e = absurd (omega (arith, e))
    go true i none j e = absurd (omega (arith, e))
    go true i (some t) j e =
        let y = verdict_fine (texts_fine rules feed_message t) (numbers_fine rules feed_message t) (feed_ok f) e in
        record { short = i; message = t; read = j; texts = y.texts; numbers = y.numbers; named = y.named }

module _ {f m : List ℕ} (P : Passed f m) where
  pub fine : JudgedMessage m
  fine = rw (P.read, P.texts, P.numbers) refl

  pub feed_short : length f ≤ most_feed
  feed_short = leb-true (length f) 16 (both_true (leb (length f) 16) (in_class token f) P.named).0

  pub message_short : length m ≤ 1048576
  message_short = leb-true (length m) 1048576 P.short

-- ---- how the call ends

-- question 1, of the lengths of the overlays and of the working buffers
abbrev pub message_sized : ℕ → List ℕ → ℕ → ℕ → ℕ → ℕ → Bool
message_sized n o new keys marks order =
    same (length o ∷ new ∷ keys ∷ marks ∷ order ∷ []) (n ∷ n ∷ keys_length ∷ marks_length ∷ order_length ∷ [])

-- what the work asks of its buffers
pub record Lends (o keys marks order : List ℕ) : Type 0 where
  pub buffers : Lent keys marks order
  pub short : length o ≤ most_old

pub lends : (n : ℕ) (o : List ℕ) (new : ℕ) (keys marks order : List ℕ) {a : Bool}
    → a ≡ message_sized n o new (length keys) (length marks) (length order) → a ≡ true → n ≤ most_old
    → Lends o keys marks order
lends n o new keys marks order A h m =
    let e = same_true (length o ∷ new ∷ length keys ∷ length marks ∷ length order ∷ [])
    (n ∷ n ∷ keys_length ∷ marks_length ∷ order_length ∷ []) (sym A ∙ h) in
    let z : length o ≡ n = ap (λ l. get_or l 0 0) e in
    record {
      buffers = record {
        keyed = ap (λ l. get_or l 2 0) e;
        marked = ap (λ l. get_or l 3 0) e;
        ordered = ap (λ l. get_or l 4 0) e;
      };
      short = omega (arith, m, z);
    }

-- what follows it
asked_on : (n : ℕ) (o f s : List ℕ) (new keys marks order : ℕ) {a : Bool} → a ≡ message_sized n o new keys marks order
    → a ≡ true
    → calls.ends (sized n) o (calls.message f s new (keys ∷ marks ∷ order ∷ []))
    ≡ need_some (state_of o) 2 (λ t.
    need (leb (length s) 1048576) 3 (need_some (tree feed feed_message s) 4 (tree_outcome (sized n) o f t)))
unfolding message_asks
asked_on n o f s new keys marks order A h = rw (sym A ∙ h) refl

module _ {n : ℕ} {o f s : List ℕ} {new keys marks order : ℕ} {a : Bool}
    (A : a ≡ message_sized n o new keys marks order) where
  pub message_unsized : {m : List ℕ} → a ≡ false
      → Ends (sized n) o (calls.message f s new (keys ∷ marks ∷ order ∷ [])) m (Refused 1)
  unfolding message_asks
  message_unsized h = record { is = rw (sym A ∙ h) refl }

  module _ (h : a ≡ true) where
    pub no_state : {m : List ℕ} → state_of o ≡ none
        → Ends (sized n) o (calls.message f s new (keys ∷ marks ∷ order ∷ [])) m (Refused 2)
    no_state e = record { is = sym (asked_on n o f s new keys marks order A h ∙ rw e refl) }

    pub asked_no : {m : List ℕ} {end q : ℕ} → Open o end → q ≡ message_number f s → (q ≡ 0 → ⊥)
        → Ends (sized n) o (calls.message f s new (keys ∷ marks ∷ order ∷ [])) m (Refused q)
    unfolding tree_asks
    asked_no {q} O e z = record {
      is = chain_refused f (λ t. changed_state (sized n) o (after_message f t O.state)) (leb (length s) 1048576)
          (tree feed feed_message s) q e z
          ∙ sym (asked_on n o f s new keys marks order A h ∙ rw O.is refl);
    }

    pub message_ends : {l m : List ℕ} {end : ℕ} {w : Option ℕ} {r : Ending} → Open o end → Passed f s
        → new ≡ length l → Leads l m w f s o → r ≡ put_ending w
        → Ends (sized n) o (calls.message f s new (keys ∷ marks ∷ order ∷ [])) m r
    unfolding tree_asks
    message_ends {l} {m} O P k W e =
        let e' = same_true (length o ∷ new ∷ keys ∷ marks ∷ order ∷ [])
        (n ∷ n ∷ keys_length ∷ marks_length ∷ order_length ∷ []) (sym A ∙ h) in
        let d : length l ≡ n = sym k ∙ ap (λ l. get_or l 1 0) e' in
        record {
          is = ap (outcome_of m) e
              ∙ changed_outcome (sized n) o (after_message f P.message O.state) d (W.of O.is P.read)
              ∙ sym
              (asked_on n o f s new keys marks order A h
              ∙ rw (O.is, P.short, P.read, P.named, P.texts, P.numbers) refl);
        }

pub zeros_three : {a b c a' b' c' : List ℕ} → a' ≡ replicate (length a) 0 → b' ≡ replicate (length b) 0
    → c' ≡ replicate (length c) 0 → Zeros (a ∷ b ∷ c ∷ []) (a' ∷ b' ∷ c' ∷ [])
zeros_three e f g = record { is = rw (e, f, g) refl }

-- A MESSAGE'S CALL
pub message_given : {n : ℕ} {old f s m out : List ℕ} {new keys marks order r : ℕ} {x : Ending} {a b c : List ℕ}
    {z : List (List ℕ)} → Ends (sized n) old (calls.message f s new (keys ∷ marks ∷ order ∷ [])) m x
    → Zeros (a ∷ b ∷ c ∷ []) z → length a ≡ keys → length b ≡ marks → length c ≡ order → length m ≡ new
    → Finished m x out r → Given (sized n) old (calls.message f s new (keys ∷ marks ∷ order ∷ [])) r out z
message_given E Z i j k l F = cleared E F l Z (rw (i, j, k) refl)

-- ---- the number, by the tests that the code makes

pub too_long : (f m : List ℕ) → 1048576 < length m → 3 ≡ message_number f m
too_long f m h = rw (lt-leb (length m) 1048576 h) refl

pub asked_number : (f m : List ℕ) {v : Verdict} {b : Bool} {n : ℕ} → length m ≤ 1048576
    → v ≡ asked rules feed_message (tree feed feed_message m) → b ≡ feed_ok f → n ≡ number_by v b
    → n ≡ message_number f m
asked_number f m h i j e = e ∙ rw (le-leb (length m) 1048576 h, i, j) refl
