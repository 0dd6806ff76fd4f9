-- How the refusals and the events of an engine are written. Assumes nothing.
use Rattle.std.specs.Prelude.{ℕ, List, ◌++◌, codes, decimal}
use Rattle.texts.specs.declared.values.Price.{Price}
use Rattle.texts.specs.Parties.{party_text}
use Rattle.texts.specs.Prices.{price_text}
use Rattle.matching.specs.declared.event.Event.{Event}
use Rattle.matching.specs.declared.event.Event.TheVariants.{Nothing, Expired, Trade}
use Rattle.matching.specs.declared.matcher.Refusal.{Refusal}
use Rattle.matching.specs.declared.matcher.Refusal.TheVariants.{NoQuantity, NumberOpen, Full, NotOpen}

abbrev pub refusal_text : Refusal → List ℕ
refusal_text NoQuantity = codes "no quantity"
refusal_text NumberOpen = codes "number open"
refusal_text Full = codes "full"
refusal_text NotOpen = codes "not open"

abbrev pub trade_text : List ℕ → List ℕ → ℕ → Price → List ℕ
trade_text maker taker q price =
    codes "trade " ++ (decimal q ++ (codes " at "
    ++ (price_text price.raw ++ (codes ": " ++ (taker ++ (codes " with " ++ maker))))))

abbrev pub event_text : Event → List ℕ
event_text Nothing = codes "nothing"
event_text (Expired n) = codes "expired " ++ decimal n
event_text (Trade p a q price) = trade_text (party_text p) (party_text a) q price
