mod FedSoFar
