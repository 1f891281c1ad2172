mod Pushing
mod LockRowing
mod LineRowing
