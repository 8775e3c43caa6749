mod InOrder
mod PoolsClosed
