mod Ready
mod Only
