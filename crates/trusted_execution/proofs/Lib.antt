pub mod StillTime
