-- What reading mandatory rows returns through the C interface.
pub mod Mandated
