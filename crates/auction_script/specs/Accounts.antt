-- What a call and an event add to an account; a count stays at the largest number of 64 bits. Assumes nothing.
use Rattle.std.specs.Prelude.{ℕ, ◌+◌, ◌-◌, ◌^◌, min, Ok, Err, Result}
use Rattle.matching.specs.declared.event.Event.{Event}
use Rattle.matching.specs.declared.event.Event.TheVariants.{Nothing, Expired, Trade}
use Rattle.matching.specs.declared.matcher.Refusal.{Refusal}
use Rattle.auction_script.specs.declared.account.Account.{Account}

abbrev pub plus : ℕ → ℕ → ℕ
plus n k = min (n + k) (2 ^ 64 - 1)

abbrev pub after_call : Account → Result (Unit {0}) Refusal → Account
after_call a (Ok u) = record a { accepted = plus a.accepted 1 }
after_call a (Err e) = record a { refused = plus a.refused 1 }

abbrev pub after_event : Account → Event → Account
after_event a Nothing = a
after_event a (Expired n) = record a { expired = plus a.expired 1 }
after_event a (Trade p n q z) = record a { trades = plus a.trades 1; traded = plus a.traded q }
