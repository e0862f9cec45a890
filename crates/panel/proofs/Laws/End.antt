-- Law. What was written ends where its writing ends, whatever follows; cut there it is what was written, and whole. The
-- end 0 says that no form stands in front.
use Rattle.std.specs.Prelude.{◌≡◌, refl, List, [], ◌∷◌, ◌++◌, true, ℕ, zero, suc, length, take, replicate}
use Rattle.std.proofs.Common.{sym, ◌∙◌, arith}
use Rattle.std.proofs.Math.Path.{ap}
use Rattle.std.proofs.Math.Option.{Option, none, some}
use Rattle.std.proofs.Math.ListN.{length-append}
use Rattle.std.proofs.Math.Seq.{take-append_seam}
use Rattle.formats.specs.Format.{Value, Fits, read, write}
use Rattle.formats.specs.Laws.Format.{read_write, write_read, nonempty, takes_nonempty}
use Rattle.panel.specs.Questions.{whole}
use Rattle.panel.proofs.Laws.RoundTrips.{whole_round_trips}
use Rattle.panel.specs.End.{form_of, taken, end}

-- WHAT WAS WRITTEN, of each kind
module _ (kind : ℕ) (v : Value (form_of kind)) (rest : List ℕ) (h : Fits (form_of kind) v) where
  abbrev written : List ℕ
  written = write (form_of kind) v

  pub end_written : end kind (written ++ rest) ≡ length written
  unfolding end
  end_written =
      ap (taken (written ++ rest)) (read_write (form_of kind) v rest h) ∙ omega (arith, length-append written rest)

  pub cut_written : take (end kind (written ++ rest)) (written ++ rest) ≡ written
  cut_written = ap (λ n. take n (written ++ rest)) end_written ∙ take-append_seam written rest

-- bytes that question 4 finds whole, with anything behind them
pub end_whole : (kind : ℕ) (w rest : List ℕ) (v : Value (form_of kind)) → whole (form_of kind) w ≡ some v
    → end kind (w ++ rest) ≡ length w
end_whole kind w rest v e =
    let (q, h) = (whole_round_trips (form_of kind)).read_was_written w v e in
    ap (λ w. end kind (w ++ rest)) q ∙ end_written kind v rest h ∙ ap length (sym q)

-- WHAT STANDS IN FRONT, cut at its end, is whole: question 4 has the answer yes, but for the order of vehicles' keys
pub cut_whole : (kind : ℕ) (s rest : List ℕ) (v : Value (form_of kind)) → read (form_of kind) s ≡ some (v, rest)
    → whole (form_of kind) (take (end kind s) s) ≡ some v
cut_whole kind s rest v e =
    let (w, h) = write_read (form_of kind) s v rest e in
    let cut : take (end kind s) s ≡ write (form_of kind) v =
    ap (λ s. take (end kind s) s) w ∙ cut_written kind v rest h in
    ap (whole (form_of kind)) cut ∙ (whole_round_trips (form_of kind)).written_reads_back v h

-- NO FORM: each has a byte, so 0 says that there is none
form_some : (kind : ℕ) → nonempty (form_of kind) ≡ true
form_some zero = refl
form_some (suc zero) = refl
form_some (suc (suc zero)) = refl
form_some (suc (suc (suc kind))) = refl

pub end_none : (kind : ℕ) (s : List ℕ) → end kind s ≡ 0 → read (form_of kind) s ≡ none
unfolding end
end_none kind s e = go (read (form_of kind) s) refl e
  where
    go : (o : Option (Value (form_of kind) × List ℕ)) → read (form_of kind) s ≡ o → taken s o ≡ 0 → o ≡ none
    go none q z = refl
    go (some (v, rest)) q z =
        let w = (write_read (form_of kind) s v rest q).0 in
        absurd (omega (
          arith,
          z,
          ap length w,
          length-append (write (form_of kind) v) rest,
          takes_nonempty (form_of kind) v (form_some kind),
        ))

-- WORKED ROWS, each with what the bytes are
-- an alert sheet without alerts ends with a zero: behind it more zeros, nothing, another byte
pub no_alerts : (end 1 (0x01 ∷ 0x00 ∷ replicate 6 0) ≡ 2) × (end 1 (0x01 ∷ 0x00 ∷ []) ≡ 2)
    × (end 1 (0x01 ∷ 0x00 ∷ 0xff ∷ []) ≡ 2)
unfolding end
no_alerts = (refl, refl, refl)

-- cut before that zero; no bytes; zeros alone
pub cut_sheet : end 1 (0x01 ∷ []) ≡ 0
unfolding end
cut_sheet = refl

pub no_bytes : (end 0 [] ≡ 0) × (end 1 [] ≡ 0) × (end 2 [] ≡ 0)
unfolding end
no_bytes = (refl, refl, refl)

pub zeros_alone : (end 0 (replicate 9 0) ≡ 0) × (end 1 (replicate 9 0) ≡ 0) × (end 2 (replicate 9 0) ≡ 0)
unfolding end
zeros_alone = (refl, refl, refl)

-- a card: three times 0, SCHEDULED, no headers, a walk without a payload
abbrev walk : List ℕ
walk = 0x01 ∷ 0x00 ∷ 0x00 ∷ 0x00 ∷ 0x00 ∷ 0x00 ∷ 0x01 ∷ 0x00 ∷ 0x00 ∷ []

pub a_card : (end 0 (walk ++ replicate 7 0) ≡ 9) × (end 0 (take 8 walk) ≡ 0)
unfolding end
a_card = (refl, refl)

-- a vehicle sheet: vehicle "7" without a trip, at 0, 0, updated at 0
abbrev one_vehicle : List ℕ
one_vehicle = 0x01 ∷ 0x01 ∷ 0x01 ∷ 0x37 ∷ replicate 18 0

pub a_vehicle : (end 2 (one_vehicle ++ replicate 5 0) ≡ 22) × (end 2 (take 21 one_vehicle) ≡ 0)
unfolding end
a_vehicle = (refl, refl)

-- taken for another kind it ends elsewhere, or is none; a kind that is none
pub other_kinds : (end 0 one_vehicle ≡ 7) × (end 1 one_vehicle ≡ 0) × (end 3 one_vehicle ≡ 0) × (end 3 walk ≡ 0)
unfolding end
other_kinds = (refl, refl, refl, refl)

-- the form alone: an alert whose header is no UTF-8 (question 5 of its call) has an end
pub form_alone : end 1 (0x01 ∷ 0x01 ∷ 0x01 ∷ 0x01 ∷ 0xff ∷ replicate 7 0) ≡ 10
unfolding end
form_alone = refl
