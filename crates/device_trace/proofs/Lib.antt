pub mod FormedAccess
