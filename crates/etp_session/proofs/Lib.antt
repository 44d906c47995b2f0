mod Memory
