-- What the calls of the table of trades answer. Assumes nothing.
use Rattle.std.specs.Prelude.{◌≡◌, ℕ, ◌+◌, ◌<◌, ◌≤◌, true, List, [], ◌∷◌, ◌++◌, length, Some, None, Ok, Err, Option, Result, if◌then◌else◌}
use Rattle.keyed.specs.Numbers.{under, put_under}
use Rattle.limits.specs.declared.TheConstants.{TRADES}
use Rattle.orders.specs.declared.trade.Trade.{Trade}
use Rattle.orders.specs.declared.trade.TradeRefusal.{TradeRefusal}
use Rattle.orders.specs.declared.trade.TradeRefusal.TheVariants.{Unknown, DoneBefore}

-- a trade is added under the next number, refused exactly where the table is full
abbrev pub Notes : List Trade → Trade → Option ℕ → List Trade → Type 0
Notes ts t None ts' = (TRADES ≤ length ts) × (ts' ≡ ts)
Notes ts t (Some n) ts' = (length ts < TRADES) × (n ≡ length ts + 1) × (ts' ≡ ts ++ t ∷ [])

-- a trade that is cancelled
abbrev pub void : Trade → Trade
void t = record t { cancelled = true }

-- why a trade is not cancelled, tried in this order
abbrev pub void_fault : Option Trade → Option TradeRefusal
void_fault None = Some Unknown
void_fault (Some t) = if t.cancelled then Some DoneBefore else None

-- the trade as it was is answered, and its row alone is marked
abbrev pub Voids : List Trade → ℕ → Result Trade TradeRefusal → List Trade → Type 0
Voids ts n (Ok t) ts' = (void_fault (under ts n) ≡ None) × (under ts n ≡ Some t) × (ts' ≡ put_under ts n (void t))
Voids ts n (Err e) ts' = (void_fault (under ts n) ≡ Some e) × (ts' ≡ ts)
