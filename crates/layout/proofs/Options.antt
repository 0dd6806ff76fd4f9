-- A test of an Option that is mapped. Assumes nothing.
use Rattle.std.proofs.Common.{◌≡◌, is_some, Some, None, Option, refl}
use Rattle.std.specs.Option.{option_map}
use Rattle.texts.specs.declared.identifiers.OrderId.{OrderId}

pub some_mapped : (o : Option OrderId) → is_some o ≡ is_some (option_map (λ i. i.number) o)
some_mapped None = refl
some_mapped (Some x) = refl
