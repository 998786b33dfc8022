use Rattle.ext_vers.specs.Order.{orders_exact, orders_total}
use Rattle.ext_vers.proofs.laws.order_is_a_total_order.Goals as goal

pub returns-clause-total : goal.returns-clause-total
returns-clause-total c = orders_total

pub returns-clause-exact : goal.returns-clause-exact
returns-clause-exact c = orders_exact
