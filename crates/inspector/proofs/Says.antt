-- What a text says, for the quotes round it. Assumes nothing.
use Rattle.std.proofs.Common.{◌≡◌, ℕ, arith}
use Rattle.texts.specs.Bytes.{said}
use Rattle.texts.specs.Identifiers.{order_id_text}
use Rattle.texts.proofs.Digits.{said-id_of}

pub said_order_id : (n : ℕ) → said (order_id_text n) ≡ order_id_text n
said_order_id n = said-id_of 79 n (omega arith) (omega arith)
