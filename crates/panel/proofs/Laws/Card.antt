-- Law. A card keeps what every call has to.
use Rattle.std.specs.Prelude.{refl, List, [], ℕ, length}
use Rattle.std.proofs.Common.{ap, ◌∙◌, leb-true}
use Rattle.formats.specs.Format.{write}
use Rattle.journey.specs.Card.{card}
use Rattle.panel.specs.Card.{finished, arriving_asks, card_asks, card_by, card_rule}
use Rattle.panel.proofs.Laws.Lawful.{Lawful, due_is, read_is}

pub card_lawful : (bytes : List ℕ) (out : ℕ) (work : List ℕ) → Lawful (card_rule bytes out work)
unfolding card_asks arriving_asks finished
card_lawful bytes out work = record {
  ordered = λ L old. (refl, (refl, λ s. (refl, (refl, λ v. (refl, (refl, (refl, (refl, tt))))))));
  right = λ L old bk h one s d three v is five six seven eight. record {
    short = rw (due_is L old out L.card work L.work.card one)
        (leb-true (length (write card (finished s v))) L.card eight);
    does = ap (λ bk. card_by bk v) (h.same s d) ∙ read_is [] (card_by bk) is;
  };
}
