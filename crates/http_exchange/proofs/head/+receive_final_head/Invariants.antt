use Rattle.http_exchange.proofs.head.+receive_final_head.Given as goal

abbrev pub decreases-receive_final_head : goal.decreases-receive_final_head
decreases-receive_final_head g l = l.skips
