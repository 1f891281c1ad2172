-- what a hart asks for, as numbers
use Rattle.std.specs.Option.{option_map}
use Rattle.bus_order.specs.Order.{numbered}
use Rattle.lab.specs.Lines.{Asking}
use Rattle.lab.specs.declared.lines.Asking as code

abbrev pub numbered_asking : code.Asking → Asking
numbered_asking asking = record {
  request = numbered asking.request;
  owner = option_map (λ hart. hart.number) asking.owner;
}
