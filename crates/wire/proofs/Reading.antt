-- A message that is read. Assumes nothing.
use Rattle.std.proofs.Common.{◌≡◌, ℕ, List, Some, None, Ok, sym, ap, subst, ◌∙◌}
use Rattle.std.specs.Option.{option_map}
use Rattle.layout.specs.declared.fault.Fault.{Fault}
use Rattle.layout.specs.declared.fault.Fault.TheVariants as fault
use Rattle.layout.specs.Layout.{fault_of, first_bad, Says, text_places}
use Rattle.wire.specs.declared.kinds.Channel.{Channel}
use Rattle.wire.specs.declared.kinds.Kind.{Kind}
use Rattle.wire.specs.declared.message.Message.{Message}
use Rattle.wire.specs.Kinds.{table_of}
use Rattle.wire.specs.Messages.{kind_of, contents_of, places_of, opening, after_opening, verdict, Reads}

pub reads : (ch : Channel) (bs : List ℕ) (k : Kind) (m : Message) → opening ch bs ≡ Ok k → first_bad (table_of k) bs
    ≡ None → kind_of m ≡ k
    → Says (contents_of m) (table_of k) bs → places_of m ≡ text_places (table_of k) bs → Reads ch bs m
reads ch bs k m o f e s p =
    let v : verdict ch bs ≡ None = ap (after_opening bs) o ∙ ap (λ x. option_map (λ at. fault.Field at) x) f in
    let P : Kind → Type 0 = λ j. Says (contents_of m) (table_of j) bs in
    record {
      passes = v;
      opens = o ∙ ap Ok (sym e);
      says = subst P (sym e) s;
      placed = p ∙ ap (λ j. text_places (table_of j) bs) (sym e);
    }

pub refused : (ch : Channel) (bs : List ℕ) (k : Kind) (x : Fault) → opening ch bs ≡ Ok k → fault_of (table_of k) bs
    ≡ Some x → verdict ch bs ≡ Some x
refused ch bs k x o f = ap (after_opening bs) o ∙ f
