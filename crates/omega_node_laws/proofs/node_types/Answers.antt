use Rattle.omega_laws.proofs.Synthesised.{exact}
use Rattle.omega_node_laws.proofs.HeldMore.{held-more}
use Rattle.omega_node_laws.proofs.NodesHeld.{nodes, closed-nodes}
use Rattle.omega_node_laws.proofs.node_types.Goals as goal

pub returns-clause-grows : goal.returns-clause-grows
returns-clause-grows c ts us ctx vars e b h = held-more ts us b ctx vars e h

pub returns-clause-nodes : goal.returns-clause-nodes
returns-clause-nodes c ts ctx vars e t g h k = nodes ts e g ((exact g).0 h).1 k

pub returns-clause-closed : goal.returns-clause-closed
returns-clause-closed c = closed-nodes
