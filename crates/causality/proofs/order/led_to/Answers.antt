use Rattle.causality.proofs.Theorems.{causal_order, order_for_sheets, stamps_mean_led_to}
use Rattle.causality.proofs.Telling.{tells_led_to}
use Rattle.causality.proofs.order.led_to.Goals as goal

pub returns : goal.returns
returns g c = record {
  answer = c.was_known.ensures;
  tells = tells_led_to c.args.m.now c.args.k.now c.was_known.result c.was_known.ensures;
  law = stamps_mean_led_to;
  order = causal_order;
  sheets = order_for_sheets;
}
