-- What the words of a call say: a command whose parts are those words, or the first word that cannot be read. Assumes
-- nothing.
use Rattle.std.specs.Prelude.{◌≡◌, ℕ, List, [], length, Ok, Err, codes, Result, slice_index_or}
use Rattle.codes.specs.declared.order.Book.TheVariants.{Integrated}
use Rattle.codes.specs.declared.order.OrderType.TheVariants as kind
use Rattle.terms.specs.declared.pricing.Pricing.{Pricing}
use Rattle.terms.specs.declared.pricing.Pricing.TheVariants.{Market, Limit}
use Rattle.auction_script.specs.declared.command.Command.{Command}
use Rattle.auction_script.specs.declared.command.Command.TheVariants.{Enter, Cancel, Amend, Run, Show}
use Rattle.auction_script.specs.declared.command.Misread.{Misread}
use Rattle.auction_script.specs.declared.command.Misread.TheVariants.{Text, Call, Number, Instrument, Side, OrderType, TimeInForce, Price, Quantity}
use Rattle.bench_words.specs.Lines.{Words}
use Rattle.auction_script.specs.Words.{ForceRead, IsNumber, IsPrice, KindRead, Neither, NumberRead, OneOf, PriceRead, SideRead}

-- the words of a price by the word of the order's type; a market order's is read and not kept
abbrev pub PricingRead : List ℕ → List ℕ → Pricing → Type 0
PricingRead k p Market = KindRead k (Ok kind.Market) × IsPrice p
PricingRead k p (Limit z) = KindRead k (Ok kind.Limit) × PriceRead p (Ok z)

abbrev pub CancelRead : List ℕ → Result Command Misread → Type 0
CancelRead n (Ok (Enter m t)) = ⊥
CancelRead n (Ok (Cancel m)) = NumberRead 64 Number n (Ok m)
CancelRead n (Ok (Amend m q p)) = ⊥
CancelRead n (Ok Run) = ⊥
CancelRead n (Ok Show) = ⊥
CancelRead n (Err e) = NumberRead 64 Number n (Err e)

-- why the words of an amendment cannot be read: those before the wrong one are right
abbrev pub AmendWrong : List ℕ → List ℕ → List ℕ → Misread → Type 0
AmendWrong n q p Text = ⊥
AmendWrong n q p Call = ⊥
AmendWrong n q p Number = IsNumber 64 n → ⊥
AmendWrong n q p Instrument = ⊥
AmendWrong n q p Side = ⊥
AmendWrong n q p OrderType = ⊥
AmendWrong n q p TimeInForce = ⊥
AmendWrong n q p Quantity = IsNumber 64 n × (IsNumber 32 q → ⊥)
AmendWrong n q p Price = IsNumber 64 n × IsNumber 32 q × (IsPrice p → ⊥)

abbrev pub AmendRead : List ℕ → List ℕ → List ℕ → Result Command Misread → Type 0
AmendRead n q p (Ok (Enter m t)) = ⊥
AmendRead n q p (Ok (Cancel m)) = ⊥
AmendRead n q p (Ok (Amend m r z)) = NumberRead 64 Number n (Ok m) × NumberRead 32 Quantity q (Ok r)
    × PriceRead p (Ok z)
AmendRead n q p (Ok Run) = ⊥
AmendRead n q p (Ok Show) = ⊥
AmendRead n q p (Err e) = AmendWrong n q p e

-- the words of an order that are right up to its side, its type, its time in force, its price
abbrev pub ToSide : List ℕ → List ℕ → Type 0
ToSide n i = IsNumber 64 n × IsNumber 8 i

abbrev pub ToKind : List ℕ → List ℕ → List ℕ → Type 0
ToKind n i s = ToSide n i × OneOf (codes "buy") (codes "sell") s

abbrev pub ToForce : List ℕ → List ℕ → List ℕ → List ℕ → Type 0
ToForce n i s k = ToKind n i s × OneOf (codes "market") (codes "limit") k

abbrev pub ToPrice : List ℕ → List ℕ → List ℕ → List ℕ → List ℕ → Type 0
ToPrice n i s k f = ToForce n i s k × OneOf (codes "day") (codes "ioc") f

-- why the words of an order cannot be read: those before the wrong one are right
abbrev pub EnterWrong : List ℕ → List ℕ → List ℕ → List ℕ → List ℕ → List ℕ → List ℕ → Misread → Type 0
EnterWrong n i s k f p q Text = ⊥
EnterWrong n i s k f p q Call = ⊥
EnterWrong n i s k f p q Number = IsNumber 64 n → ⊥
EnterWrong n i s k f p q Instrument = IsNumber 64 n × (IsNumber 8 i → ⊥)
EnterWrong n i s k f p q Side = ToSide n i × Neither (codes "buy") (codes "sell") s
EnterWrong n i s k f p q OrderType = ToKind n i s × Neither (codes "market") (codes "limit") k
EnterWrong n i s k f p q TimeInForce = ToForce n i s k × Neither (codes "day") (codes "ioc") f
EnterWrong n i s k f p q Price = ToPrice n i s k f × (IsPrice p → ⊥)
EnterWrong n i s k f p q Quantity = ToPrice n i s k f × IsPrice p × (IsNumber 32 q → ⊥)

abbrev pub EnterRead : List ℕ → List ℕ → List ℕ → List ℕ → List ℕ → List ℕ → List ℕ → Result Command Misread → Type 0
EnterRead n i s k f p q (Ok (Enter m t)) =
    NumberRead 64 Number n (Ok m) × NumberRead 8 Instrument i (Ok t.instrument) × SideRead s (Ok t.side)
    × PricingRead k p t.pricing
    × ForceRead f (Ok t.lifetime) × NumberRead 32 Quantity q (Ok t.quantity) × (t.book ≡ Integrated)
EnterRead n i s k f p q (Ok (Cancel m)) = ⊥
EnterRead n i s k f p q (Ok (Amend m r z)) = ⊥
EnterRead n i s k f p q (Ok Run) = ⊥
EnterRead n i s k f p q (Ok Show) = ⊥
EnterRead n i s k f p q (Err e) = EnterWrong n i s k f p q e

-- ---- all words of a line

-- the text of a line's word, the first at 0
abbrev pub word : Words → ℕ → List ℕ
word ws k = (slice_index_or ws k (record { ref_ptr = (0, 0); now = [] })).now

-- so many words, of which the first is the name
abbrev pub IsCall : Words → List ℕ → ℕ → Type 0
IsCall ws name count = (length ws ≡ count) × (word ws 0 ≡ name)

-- a call by its name and the number of its words; any other is none
pub record WordsRead (ws : Words) (r : Result Command Misread) : Type 0 where
  pub enter : IsCall ws (codes "enter") 8 → EnterRead (word ws 1) (word ws 2) (word ws 3) (word ws 4) (word ws 5)
      (word ws 6) (word ws 7) r
  pub cancel : IsCall ws (codes "cancel") 2 → CancelRead (word ws 1) r
  pub amend : IsCall ws (codes "amend") 4 → AmendRead (word ws 1) (word ws 2) (word ws 3) r
  pub run : IsCall ws (codes "run") 1 → r ≡ Ok Run
  pub book : IsCall ws (codes "book") 1 → r ≡ Ok Show
  pub other :
      (IsCall ws (codes "enter") 8 → ⊥) → (IsCall ws (codes "cancel") 2 → ⊥) → (IsCall ws (codes "amend") 4 → ⊥)
      → (IsCall ws (codes "run") 1 → ⊥) → (IsCall ws (codes "book") 1 → ⊥) → r ≡ Err Call
