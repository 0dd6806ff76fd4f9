-- How what cannot be read of a line is named. Assumes nothing.
use Rattle.std.specs.Prelude.{ℕ, List, codes}
use Rattle.auction_script.specs.declared.command.Misread.{Misread}
use Rattle.auction_script.specs.declared.command.Misread.TheVariants.{Text, Call, Number, Instrument, Side, OrderType, TimeInForce, Price, Quantity}

abbrev pub misread_text : Misread → List ℕ
misread_text Text = codes "text"
misread_text Call = codes "call"
misread_text Number = codes "number"
misread_text Instrument = codes "instrument"
misread_text Side = codes "side"
misread_text OrderType = codes "order type"
misread_text TimeInForce = codes "force"
misread_text Price = codes "price"
misread_text Quantity = codes "quantity"
