-- How answers are written. Assumes nothing.
use Rattle.std.specs.Prelude.{ℕ, ◌/◌, ◌%◌, false, List, ◌++◌, codes, decimal}
use Rattle.std.specs.Fmt.{digits}
use Rattle.std.specs.List.{flat_map}
use Rattle.texts.specs.Parties.{party_text}
use Rattle.texts.specs.Prices.{price_text}
use Rattle.bench_account.specs.declared.answer.Answer.{Answer}
use Rattle.bench_account.specs.declared.answer.Answer.TheVariants as answer
use Rattle.bench_account.specs.declared.answer.Payload.{Payload}
use Rattle.bench_account.specs.declared.answer.Payload.TheVariants as payload
use Rattle.bench_account.specs.declared.answer.Trade.{Trade}

-- a byte as two hex digits
abbrev pub pair_text : ℕ → List ℕ
pair_text b = digits 16 false (b / 16) ++ digits 16 false (b % 16)

abbrev pub hex_text : List ℕ → List ℕ
hex_text bs = flat_map pair_text bs

abbrev pub payload_text : Payload → List ℕ
payload_text (payload.Bytes b) = hex_text b.now
payload_text (payload.Text t) = t.now

abbrev pub trade_text : Trade → List ℕ
trade_text t =
    (codes "trade " ++ (decimal t.number ++ (codes " passive " ++ (party_text t.passive ++ codes " "))))
    ++ (codes "aggressive " ++ (party_text t.aggressive
    ++ (codes " " ++ (decimal t.quantity ++ (codes " at " ++ price_text t.price.raw)))))

abbrev pub answer_text : Answer → List ℕ
answer_text answer.Started = codes "started"
answer_text answer.Nothing = codes "nothing"
answer_text (answer.Message p) = codes "answer " ++ payload_text p
answer_text (answer.Sent p) = codes "message " ++ payload_text p
answer_text (answer.Expired n) = codes "expired " ++ decimal n
answer_text (answer.Traded t) = trade_text t
answer_text answer.Cancelled = codes "cancelled"
answer_text answer.Closed = codes "closed"
answer_text answer.Set = codes "midpoint set"
answer_text answer.Up = codes "up"
answer_text answer.Lost = codes "lost"
answer_text (answer.Request p) = codes "request " ++ payload_text p
answer_text (answer.Became w) = w.now
answer_text (answer.Refused n) = codes "refused " ++ decimal n
answer_text (answer.RefusedAt n at) = codes "refused " ++ (decimal n ++ (codes " at " ++ decimal at))
answer_text (answer.Rejected n at p) =
    codes "refused " ++ (decimal n ++ (codes " at " ++ (decimal at ++ (codes " answer " ++ payload_text p))))
